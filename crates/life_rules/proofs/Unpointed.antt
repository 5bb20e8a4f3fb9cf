-- What points to no place stays, whatever an instruction ends or changes.
use Rattle.std.proofs.Common.{◌≡◌, ℕ, Bool, true, false, true≢false, List, Option, Some, None, refl}
use Rattle.std.specs.Prelude.{◌||◌}
use Rattle.life_types.specs.Types.{Types}
use Rattle.life_types.specs.declared.place.Place.{Place}
use Rattle.life_core.specs.Function.{Function}
use Rattle.life_core.specs.Step.{Step, End}
use Rattle.life_pset.specs.declared.element.AbsPlace.{AbsPlace}
use Rattle.life_pset.specs.declared.element.Element.{Element}
use Rattle.life_pset.specs.declared.element.Element.TheVariants as element
use Rattle.life_rules.specs.Carrying.{is_gone, is_killed, is_killed_by, kills}
use Rattle.life_rules.specs.Matching.{is_at_place, points_among, points_under}
use Rattle.life_rules.specs.declared.kill.Kill.{Kill}
use Rattle.life_rules.specs.declared.kill.KillPair.{KillPair}

under_none : (owner : AbsPlace) (e : Element) → is_at_place e ≡ false → points_under owner e ≡ false
under_none owner (element.At a) h = absurd (true≢false h)
under_none owner _ h = refl

among_none : (xs : List ℕ) (e : Element) → is_at_place e ≡ false → points_among xs e ≡ false
among_none xs (element.At a) h = absurd (true≢false h)
among_none xs _ h = refl

either_none : (a b : Bool) → a ≡ false → b ≡ false → (a || b) ≡ false
either_none true b h k = absurd (true≢false h)
either_none false b h k = k

killed_by_none : (k : Option Kill) (e : Element) → is_at_place e ≡ false → is_killed_by k e ≡ false
killed_by_none None e h = refl
killed_by_none (Some k) e h = under_none k.owner e h

killed_none : (ks : KillPair) (e : Element) → is_at_place e ≡ false → is_killed ks e ≡ false
killed_none ks e h = either_none (is_killed_by ks.first e) (is_killed_by ks.second e) (killed_by_none ks.first e h) (killed_by_none ks.second e h)

pub stays : (types : Types) (f : Function) (place : Place) (i : Step) (e : Element) → is_at_place e ≡ false → is_gone types f place i e ≡ false
stays types f place (End xs) e h = among_none xs e h
stays types f place i e h = killed_none (kills types f place i) e h
