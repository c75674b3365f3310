pub use Rattle.lb_places.specs.FirstPlaces
