use Rattle.std.proofs.Common.{refl, arith, rules}
use Rattle.life_store.proofs.plain_object.PlainObject.renew.Goals as goal

pub returns : goal.returns
returns c = rw (← c.self.view_is) (rw (c.truncate.ensures.items, c.truncate-2.ensures.items) refl)

pub invariant_of-self : goal.invariant_of-self
invariant_of-self c = record {
  words = rw (c.truncate.ensures.items, c.truncate-2.ensures.items) (omega arith);
  ascend = rw (c.truncate-2.ensures.items) tt;
  fits = rw (c.truncate-2.ensures.items) (omega arith);
  wide = search rules;
  word_room = search rules;
  stamp_room = search rules;
  small = search rules;
}
