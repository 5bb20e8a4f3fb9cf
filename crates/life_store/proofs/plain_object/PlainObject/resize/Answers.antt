use Rattle.std.proofs.Common.{List, arith, rules, sym, subst, ap, length, take, ◌∙◌, ◌*◌, ◌≤◌}
use Rattle.life_store.specs.Content.{Object, Slot}
use Rattle.life_store.specs.References.{CanResize}
use Rattle.life_store.proofs.Ascending.{ascend_filled, ascend_front, filled_length}
use Rattle.life_store.proofs.SlotLemmas.{slots_length, slots_resized}
use Rattle.life_store.proofs.plain_object.PlainObject.resize.Goals as goal

pub returns : goal.returns
returns c =
    let a = c.self.inside in
    let can = subst (CanResize c.args.length c.args.since) (sym c.self.view_is) c.requires.fits in
    let from : c.args.since ≤ length a.stamps.items = omega (arith, can.from, slots_length a.width a.words.items a.stamps.items) in
    let laid : List Slot → Object = λ slots. record { ty = a.ty; width = a.width; capacity = a.capacity; slots = slots; end = c.args.moment } in
    rw (← c.self.view_is)
    (rw (c.refill.ensures.items, c.refill-2.ensures.items, c.truncate.ensures.items)
    (ap laid (slots_resized a.width c.args.moment c.args.length c.args.since a.words.items a.stamps.items c.self.invariant.words can.to from)))

pub invariant_of-self : goal.invariant_of-self
invariant_of-self c =
    let a = c.self.inside in
    let can = subst (CanResize c.args.length c.args.since) (sym c.self.view_is) c.requires.fits in
    let later = subst (λ (o : Object). o.end ≤ c.args.moment) (sym c.self.view_is) c.requires.later in
    let cut = take c.args.since a.stamps.items in
    let slots = filled_length c.args.length c.args.moment cut in
    record {
      words = rw (c.refill.ensures.items, c.refill-2.ensures.items, c.truncate.ensures.items) (filled_length (c.args.length * a.width) 0 a.words.items ∙ sym (ap (λ n. n * a.width) slots));
      ascend = rw (c.refill-2.ensures.items, c.truncate.ensures.items)
          (ascend_filled (take c.args.length cut) _ c.args.moment
          (ascend_front cut c.args.moment c.args.moment c.args.length (omega arith) (ascend_front a.stamps.items a.end c.args.moment c.args.since later c.self.invariant.ascend)));
      fits = rw (c.refill-2.ensures.items, c.truncate.ensures.items) (subst (λ n. n ≤ a.capacity) (sym slots) can.fits);
      wide = search rules;
      word_room = search rules;
      stamp_room = search rules;
      small = search rules;
    }
