-- One step of reading after another: what each gave.
use Rattle.std.proofs.Common.{◌≡◌, Result, Ok, Err, inl, inr, ◌⊎◌, refl}
use Rattle.life_expr.specs.Read.{Stop, ◌>>=◌}

pub bind_ok : {A B : Type 0} (r : Result A Stop) (f : A → Result B Stop) (y : B) → (r >>= f) ≡ Ok y → (x : A) × (r ≡ Ok x) × (f x ≡ Ok y)
bind_ok (Ok x) f y e = (x, refl, e)
bind_ok (Err s) f y e = absurd cc

pub bind_err : {A B : Type 0} (r : Result A Stop) (f : A → Result B Stop) (s : Stop) → (r >>= f) ≡ Err s → (r ≡ Err s) ⊎ ((x : A) × (r ≡ Ok x) × (f x ≡ Err s))
bind_err (Ok x) f s e = inr (x, refl, e)
bind_err (Err d) f s e = inl cc

pub ok_is : {A : Type 0} (x y : A) → ◌≡◌ {A = Result A Stop} (Ok x) (Ok y) → x ≡ y
ok_is x y e = cc

pub stop_is : {A : Type 0} (c d : Stop) → ◌≡◌ {A = Result A Stop} (Err c) (Err d) → c ≡ d
stop_is c d e = cc

pub err_no_ok : {A : Type 0} (s : Stop) (y : A) → ◌≡◌ {A = Result A Stop} (Err s) (Ok y) → ⊥
err_no_ok s y e = cc

pub ok_no_err : {A : Type 0} (x : A) (s : Stop) → ◌≡◌ {A = Result A Stop} (Ok x) (Err s) → ⊥
ok_no_err x s e = cc
