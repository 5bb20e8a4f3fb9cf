use Rattle.std.proofs.Common.{◌≡◌, List, [], length, slice_get, subst, true}
use Rattle.std.specs.Prelude.{unwrap_or}
use Rattle.life_types.specs.declared.ty.NameId.{NameId}
use Rattle.life_core.specs.Function.{member_names}
use Rattle.life_proper_check.specs.Deciding.{is_named_struct}
use Rattle.life_proper_check.proofs.Named.{named_turn}
use Rattle.life_proper_check.proofs.headers.have_names.Goals as goal

pub loop-number-preserved : goal.loop-number-preserved
loop-number-preserved c rest =
    let p = c.args.p.now in
    let i = c.loop-number.number in
    let names = length p.names.texts.items in
    let one = subst (λ (ns : List NameId). is_named_struct names (unwrap_or (slice_get p.types.structs i) []) ns ≡ true) c.deref.ensures.value (c.is_named.ensures c.if-not-is_named.false) in
    c.loop-number.invariant
    (named_turn member_names names i p.types.structs p.names.members.items c.deref-given-items.result.now c.given-item.result c.deref-given-items.ensures.value c.loop-number-test.true c.given-item.is one rest)
