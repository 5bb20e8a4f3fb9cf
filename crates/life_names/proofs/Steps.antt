-- Steps that may fail, one after the other: what fails first fails altogether.
use Rattle.std.proofs.Common.{◌≡◌, Result, Ok, Err, ap, ◌∙◌}
use Rattle.life_types.specs.Types.{Types}
use Rattle.life_names.specs.Checked.{Checked, ◌>>=◌, Fails, Gives}
use Rattle.life_names.specs.Found.{Finds, Found, Misses, found_in, given}
use Rattle.life_names.specs.declared.fault.IllFault.{IllFault}
use Rattle.life_names.specs.declared.fault.IllFault.TheVariants as faults

-- ---- behind what is found

pub given_fails : {A B : Type 0} (found : Found A) (check : A → Checked B) (e : IllFault) (total : Checked B) → total ≡ given found check → Misses e found → Fails e total
given_fails found check faults.NoMemory total is f = tt
given_fails {A} {B} found check (faults.Ill kind place) total is f = is ∙ ap (λ (x : Found A). given x check) f

pub given_goes : {A B : Type 0} (found : Found A) (check : A → Checked B) (x : A) (total : Checked B) → total ≡ given found check → found ≡ Ok x → total ≡ check x
given_goes {A} {B} found check x total is f = is ∙ ap (λ (y : Found A). given y check) f

-- ---- behind what is checked

pub bind_fails : {A B : Type 0} (first : Checked A) (then_check : A × Types → Checked B) (e : IllFault) (total : Checked B) → total ≡ first >>= then_check → Fails e first → Fails e total
bind_fails first then_check faults.NoMemory total is f = tt
bind_fails {A} {B} first then_check (faults.Ill kind place) total is f = is ∙ ap (λ (x : Checked A). x >>= then_check) f

pub bind_goes : {A B : Type 0} (first : Checked A) (then_check : A × Types → Checked B) (x : A × Types) (total : Checked B) → total ≡ first >>= then_check → first ≡ Ok x → total ≡ then_check x
bind_goes {A} {B} first then_check x total is f = is ∙ ap (λ (y : Checked A). y >>= then_check) f

-- ---- what was returned

pub gives_as : {X Y : Type 0} (view : X → Y) (types : Types) (r : Result X IllFault) (total other : Checked Y) → total ≡ other → Gives view types r other → Gives view types r total
gives_as view types (Ok x) total other is g = is ∙ g
gives_as view types (Err faults.NoMemory) total other is g = tt
gives_as view types (Err (faults.Ill kind place)) total other is g = is ∙ g

pub found_gives : {X A : Type 0} (view : X → A) (types : Types) (r : Result X IllFault) (found : Found A) (total : Checked A) → total ≡ found_in types found → Finds view r found → Gives view types r total
found_gives {X} {A} view types (Ok x) found total is f = is ∙ ap (λ (y : Found A). found_in types y) f
found_gives view types (Err faults.NoMemory) found total is f = tt
found_gives {X} {A} view types (Err (faults.Ill kind place)) found total is f = is ∙ ap (λ (y : Found A). found_in types y) f
