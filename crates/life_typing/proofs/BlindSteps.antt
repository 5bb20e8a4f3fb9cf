-- Steps one after the other give the same if each does.
use Rattle.std.proofs.Common.{◌≡◌}
use Rattle.life_types.specs.Types.{Types}
use Rattle.life_names.specs.Checked.{Checked, ◌>>=◌}
use Rattle.life_names.specs.Found.{Found, given}
use Rattle.life_typing.specs.Answers.{Answer, ◌>>◌}

pub bind_as : {A B : Type 0} {m n : Checked A} {f g : A × Types → Checked B} → m ≡ n → ((x : A × Types) → f x ≡ g x) → (m >>= f) ≡ (n >>= g)
bind_as e h = λ i. e i >>= (λ x. h x i)

pub given_as : {A B : Type 0} (m : Found A) {f g : A → Checked B} → ((x : A) → f x ≡ g x) → given m f ≡ given m g
given_as m h = λ i. given m (λ x. h x i)

pub then_as : {A B : Type 0} {m n : Answer A} {f g : A → Answer B} → m ≡ n → ((x : A) → f x ≡ g x) → (m >> f) ≡ (n >> g)
then_as e h = λ i. e i >> (λ x. h x i)
