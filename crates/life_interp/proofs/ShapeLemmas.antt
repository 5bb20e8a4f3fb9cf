-- What has a shape lives.
use Rattle.std.proofs.Common.{◌≡◌, Option, Some, None, Result, Ok, Err, refl, ap, ◌∙◌}
use Rattle.life_store.specs.Content.{Object}
use Rattle.life_store.specs.References.{asked_of, shape_of}
use Rattle.life_store.specs.declared.object.Dead.{Dead}
use Rattle.life_store.specs.declared.object.Shape.{Shape}

ok_none : (shape : Shape) (x : Option Object) → x ≡ None → ◌≡◌ {A = Result Shape Dead} (Ok shape) (asked_of x shape_of) → ⊥
ok_none shape x none e = clash (e ∙ ap (λ o. asked_of o shape_of) none)
  where
    clash : ◌≡◌ {A = Result Shape Dead} (Ok shape) (asked_of None shape_of) → ⊥
    clash h = cc

pub ok_lives : (shape : Shape) (x : Option Object) → ◌≡◌ {A = Result Shape Dead} (Ok shape) (asked_of x shape_of) → (o : Object) × (x ≡ Some o)
ok_lives shape None e = absurd (ok_none shape None refl e)
ok_lives shape (Some o) e = (o, refl)

-- .. and nothing else does
pub err_none : (d : Dead) (x : Option Object) → ◌≡◌ {A = Result Shape Dead} (Err d) (asked_of x shape_of) → x ≡ None
err_none d None e = refl
err_none d (Some o) e = absurd (clash e)
  where
    clash : ◌≡◌ {A = Result Shape Dead} (Err d) (Ok (shape_of o)) → ⊥
    clash h = cc
