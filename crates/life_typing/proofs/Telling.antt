-- What a part breaks the whole breaks, and behind a part that breaks nothing the rest is the whole.
use Rattle.std.proofs.Common.{◌≡◌, Ok, Err, sym, ap, ◌∙◌}
use Rattle.life_types.specs.declared.place.Place.{Place}
use Rattle.life_typing.specs.Answers.{Answer, ◌>>◌, Tells}
use Rattle.life_names.specs.Checked.{Checked, Fails}
use Rattle.life_names.specs.declared.fault.IllFault.{IllFault}
use Rattle.life_names.specs.declared.fault.IllFault.TheVariants as faults
use Rattle.life_names.specs.declared.fault.IllKind.{IllKind}

pub tells_in : {A B : Type 0} (e : IllFault) (a : Answer A) (f : A → Answer B) (whole : Answer B) → a >> f ≡ whole → Tells e a → Tells e whole
tells_in faults.NoMemory a f whole so_far h = tt
tells_in (faults.Ill kind place) a f whole so_far h = sym so_far ∙ ap (λ x. x >> f) h

pub goes_in : {A B : Type 0} (a : Answer A) (x : A) (f : A → Answer B) (whole : Answer B) → a >> f ≡ whole → a ≡ Ok x → f x ≡ whole
goes_in a x f whole so_far h = sym (ap (λ y. y >> f) h) ∙ so_far

pub broken_there : {A : Type 0} (e : IllFault) (kind : IllKind) (place : Place) (checked : Checked A) → Fails e checked → e ≡ faults.Ill kind place → checked ≡ Err (record { kind = kind; place = place })
broken_there e kind place checked h is = rw is at h
