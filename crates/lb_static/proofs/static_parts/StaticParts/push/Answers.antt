-- The place of a static expression is the place of an equal one, or the last place.
use Rattle.std.proofs.Common.{◌∙◌, map, sym}
use Rattle.lb_static.specs.StaticParts.{part_of}
use Rattle.lb_static.proofs.SharedParts.{another_there, fresh_key, held_place, held_static}
use Rattle.lb_static.proofs.SharedParts.{held_there, last_place, new_static, unkeyed}
use Rattle.lb_static.proofs.static_parts.StaticParts.push.Goals as goal

pub returns-in_default-clause-place : goal.returns-in_default-clause-place
returns-in_default-clause-place c =
    let ps = c.args.self.now.parts.items in
    let q = c.args.part in
    last_place c.append.result ps q
    (unkeyed (map part_of ps) (part_of q)
    (sym c.key_of.ensures ∙ c.in_default.is))
    c.append.ensures.place

pub returns-in-Some-copied-clause-after : goal.returns-in-Some-copied-clause-after
returns-in-Some-copied-clause-after c =
    let here = c.args.self.now in
    let ps = here.parts.items in
    let q = c.args.part in
    let key = c.in-Some.key in
    let keyed = sym c.key_of.ensures ∙ c.in-Some.is in
    let found = sym (c.copied.ensures ∙ c.get.ensures.value ∙ here.placed key)
    ∙ c.in-Some-copied.is in
    held_static ps q c.in-Some-copied.place
    (held_there (map part_of ps) (part_of q) key c.in-Some-copied.place keyed found
    (sym c.is_held_at.ensures ∙ c.if-is_held_at.true))

pub returns-in-Some-copied-clause-place : goal.returns-in-Some-copied-clause-place
returns-in-Some-copied-clause-place c =
    let here = c.args.self.now in
    let ps = map part_of here.parts.items in
    let q = part_of c.args.part in
    let key = c.in-Some.key in
    let keyed = sym c.key_of.ensures ∙ c.in-Some.is in
    let found = sym (c.copied.ensures ∙ c.get.ensures.value ∙ here.placed key)
    ∙ c.in-Some-copied.is in
    held_place ps q c.in-Some-copied.place
    (held_there ps q key c.in-Some-copied.place keyed found
    (sym c.is_held_at.ensures ∙ c.if-is_held_at.true))

pub returns-in-Some-2-clause-place : goal.returns-in-Some-2-clause-place
returns-in-Some-2-clause-place c =
    let here = c.args.self.now in
    let ps = here.parts.items in
    let q = c.args.part in
    let key = c.in-Some.key in
    let keyed = sym c.key_of.ensures ∙ c.in-Some.is in
    let found = sym (c.copied.ensures ∙ c.get.ensures.value ∙ here.placed key)
    ∙ c.in-Some-copied.is in
    last_place c.append-in-Some-2.result ps q
    (another_there (map part_of ps) (part_of q) key c.in-Some-copied.place keyed found
    (sym c.is_held_at.ensures ∙ c.if-is_held_at.false))
    c.append-in-Some-2.ensures.place

pub returns-in-None-clause-place : goal.returns-in-None-clause-place
returns-in-None-clause-place c =
    let here = c.args.self.now in
    let ps = here.parts.items in
    let q = c.args.part in
    let key = c.in-Some.key in
    let keyed = sym c.key_of.ensures ∙ c.in-Some.is in
    let none = sym (c.copied.ensures ∙ c.get.ensures.value ∙ here.placed key) ∙ c.in-None.is in
    last_place c.add.result ps q (fresh_key (map part_of ps) (part_of q) key keyed none)
    c.add.ensures.place

pub returns-in_default-clause-after : goal.returns-in_default-clause-after
returns-in_default-clause-after c =
    let ps = c.args.self.now.parts.items in
    let q = c.args.part in
    new_static c.append.result ps c.append.new.self.parts.items q
    (unkeyed (map part_of ps) (part_of q)
    (sym c.key_of.ensures ∙ c.in_default.is))
    c.append.ensures.after

pub returns-in-Some-2-clause-after : goal.returns-in-Some-2-clause-after
returns-in-Some-2-clause-after c =
    let here = c.args.self.now in
    let ps = here.parts.items in
    let q = c.args.part in
    let key = c.in-Some.key in
    let keyed = sym c.key_of.ensures ∙ c.in-Some.is in
    let found = sym (c.copied.ensures ∙ c.get.ensures.value ∙ here.placed key)
    ∙ c.in-Some-copied.is in
    new_static c.append-in-Some-2.result ps c.append-in-Some-2.new.self.parts.items q
    (another_there (map part_of ps) (part_of q) key c.in-Some-copied.place keyed found
    (sym c.is_held_at.ensures ∙ c.if-is_held_at.false))
    c.append-in-Some-2.ensures.after

pub returns-in-None-clause-after : goal.returns-in-None-clause-after
returns-in-None-clause-after c =
    let here = c.args.self.now in
    let ps = here.parts.items in
    let q = c.args.part in
    let key = c.in-Some.key in
    let keyed = sym c.key_of.ensures ∙ c.in-Some.is in
    let none = sym (c.copied.ensures ∙ c.get.ensures.value ∙ here.placed key) ∙ c.in-None.is in
    new_static c.add.result ps c.add.new.self.parts.items q
    (fresh_key (map part_of ps) (part_of q) key keyed none) c.add.ensures.after
