-- A function whose ways are ready with a pointer for its result writes its result on every way to a return.
use Rattle.std.proofs.Common.{◌≡◌, ◌<◌, ◌≤◌, ◌+◌, ◌⊎◌, ⊎_elim, ℕ, zero, suc, Bool, true, false, List, [], ◌∷◌, length, map, Some, None, Result, Ok, Err, slice_get, option_map, refl, sym, ap, subst, ◌∙◌, arith}
use Rattle.std.proofs.lemmas.Bool.{and_parts, false≢true}
use Rattle.std.proofs.lemmas.Option.{none-some, same_Some}
use Rattle.std.specs.List.{list_all}
use Rattle.std.specs.Prelude.{IfOk, IsTrue}
use Rattle.life_types.specs.declared.memory.NoMemory.{NoMemory}
use Rattle.life_core.specs.declared.program.CoreFn.{CoreFn}
use Rattle.life_core.specs.Function.{function_of}
use Rattle.life_proper_check.proofs.Functions.{function_at}
use Rattle.life_types.specs.Types.{Types, class_at}
use Rattle.life_types.specs.declared.ty.Class.{Class}
use Rattle.life_types.specs.declared.ty.Class.TheVariants.{Pointer}
use Rattle.life_types.specs.declared.ty.TyId.{TyId}
use Rattle.life_core.specs.Function.{Function}
use Rattle.life_core.specs.Proper.{AreReady, Reaches, bits_past, goes_on, starts}
use Rattle.life_core.specs.Ready.{AreBits, IsThere, Ready}
use Rattle.life_core.specs.Step.{Step}
use Rattle.life_core.specs.Touched.{result_uses, touched, touched_by}
use Rattle.life_core.specs.Tree.{Node, Action, Question, Return, Stop}
use Rattle.life_proper.specs.Checking.{is_checked}
use Rattle.life_proper.specs.ResultsWritten.{HasResultWritten, HaveResultsWritten, writes_result}
use Rattle.life_proper.proofs.ProperFunctions.{proper}
use Rattle.life_proper_check.specs.Results.{GivesAt, IsUnaskedAt, IsWrittenAt, result_set, with_result}

module _ (types : Types) (f : Function) (pointer : TyId) where
  -- ---- the ways are the same

  touches_same : (i : Step) → touched_by f i ≡ touched_by (with_result pointer f) i
  touches_same i = refl

  past_same : (bits : Ready) (node : Node) → bits_past types f node bits ≡ bits_past types (with_result pointer f) node bits
  past_same bits (Action i) = refl
  past_same bits (Question t) = refl
  past_same bits Return = refl
  past_same bits Stop = refl

  reached_same : (p : ℕ) (bits : Ready) → Reaches types f p bits → Reaches types (with_result pointer f) p bits
  reached_same p _ (starts is) = starts is
  reached_same q _ (goes_on {p} {bits} {l} {lead} before at among to) =
      subst (Reaches types (with_result pointer f) q) (sym (past_same bits l.spot.node)) (goes_on (reached_same p bits before) at among to)

  -- ---- a return asks for the result

  uses_pointer : (c : Class) (x : ℕ) (bits : Ready) → c ≡ Pointer → AreBits true bits (result_uses c x) → IsThere bits x
  uses_pointer c x bits e there = (subst (λ (k : Class). AreBits true bits (result_uses k x)) e there).0

  asked_at : (bits : Ready) (node : Node) → node ≡ Return → class_at types pointer ≡ Pointer → AreReady bits (touched types (with_result pointer f) node) → IsThere bits f.parameters
  asked_at bits node is e ready =
      uses_pointer (class_at types pointer) f.parameters bits e (subst (λ (n : Node). AreReady bits (touched types (with_result pointer f) n)) is ready).uses

  pub result_written : (names : List (List ℕ)) → class_at types pointer ≡ Pointer → is_checked types (with_result pointer f) ≡ true → HasResultWritten names types f
  result_written names e checks must p bits l way at is =
      asked_at bits l.spot.node is e ((proper types (with_result pointer f) checks).ready p bits l (reached_same p bits way) at)

-- ---- one function of a program

set_there : (pointer : TyId) (n : ℕ) (fs : List Function) (f : Function) → slice_get fs n ≡ Some f → slice_get (result_set n pointer fs) n ≡ Some (with_result pointer f)
set_there pointer n [] f e = absurd (none-some f e)
set_there pointer zero (g ∷ fs) f e = ap (λ (h : Function). Some (with_result pointer h)) (same_Some g f e)
set_there pointer (suc n) (g ∷ fs) f e = set_there pointer n fs f e

-- set to what it was, it is as before
pub set_back : (pointer own : TyId) (n : ℕ) (fs : List Function) → GivesAt fs n own → result_set n own (result_set n pointer fs) ≡ fs
set_back pointer own n [] gives = refl
set_back pointer own zero (g ∷ fs) gives = ap (λ (id : TyId). with_result id g ∷ fs) (sym (gives g refl))
set_back pointer own (suc n) (g ∷ fs) gives = ap (λ (gs : List Function). g ∷ gs) (set_back pointer own n fs gives)

all_checked : (types : Types) (fs : List Function) (n : ℕ) (f : Function) → list_all (is_checked types) fs ≡ true → slice_get fs n ≡ Some f → is_checked types f ≡ true
all_checked types [] n f e at = absurd (none-some f at)
all_checked types (g ∷ fs) zero f e at = subst (λ (h : Function). is_checked types h ≡ true) (same_Some g f at) (and_parts (is_checked types g) (list_all (is_checked types) fs) e).0
all_checked types (g ∷ fs) (suc n) f e at = all_checked types fs n f (and_parts (is_checked types g) (list_all (is_checked types) fs) e).1 at

pub one_written : (names : List (List ℕ)) (types : Types) (fs : List Function) (n : ℕ) (f : Function) (pointer : TyId) → slice_get fs n ≡ Some f → class_at types pointer ≡ Pointer
    → list_all (is_checked types) (result_set n pointer fs) ≡ true → HasResultWritten names types f
one_written names types fs n f pointer at e all =
    result_written types f pointer names e (all_checked types (result_set n pointer fs) n (with_result pointer f) all (set_there pointer n fs f at))

-- one that needn't write it
pub none_written : (names : List (List ℕ)) (types : Types) (f : Function) → writes_result names types f ≡ false → HasResultWritten names types f
none_written names types f e must = absurd (false≢true (sym e ∙ must))

-- ---- as the code has it

pub unasked : (names : List (List ℕ)) (types : Types) (fs : List Function) (n : ℕ) → IsUnaskedAt names types fs n → IsWrittenAt names types fs n
unasked names types fs n none f at = none_written names types f (none f at)

pub written_if : (names : List (List ℕ)) (types : Types) (fs : List Function) (n : ℕ) (pointer : TyId) (result : Result Bool NoMemory) → class_at types pointer ≡ Pointer
    → IfOk result (λ answer. answer ≡ list_all (is_checked types) (result_set n pointer fs)) → IfOk result (λ written. IsTrue written → IsWrittenAt names types fs n)
written_if names types fs n pointer (Ok answer) e is = λ good f at. one_written names types fs n f pointer at e (sym is ∙ good)
written_if names types fs n pointer (Err none) e is = tt

at_core : (fs : List CoreFn) (n : ℕ) (f : CoreFn) (g : Function) → slice_get fs n ≡ Some f → slice_get (map function_of fs) n ≡ Some g → function_of f ≡ g
at_core fs n f g here there = same_Some (function_of f) g (sym (function_at fs n ∙ ap (option_map function_of) here) ∙ there)

pub own_at : (fs : List CoreFn) (n : ℕ) (f : CoreFn) → slice_get fs n ≡ Some f → GivesAt (map function_of fs) n f.result
own_at fs n f here g there = ap (λ (h : Function). h.result) (sym (at_core fs n f g here there))

pub unasked_at : (names : List (List ℕ)) (types : Types) (fs : List CoreFn) (n : ℕ) (f : CoreFn) → slice_get fs n ≡ Some f → writes_result names types (function_of f) ≡ false → IsUnaskedAt names types (map function_of fs) n
unasked_at names types fs n f here e g there = subst (λ (h : Function). writes_result names types h ≡ false) (at_core fs n f g here there) e

pub none_at : (names : List (List ℕ)) (types : Types) (fs : List CoreFn) (n : ℕ) → slice_get fs n ≡ None → IsUnaskedAt names types (map function_of fs) n
none_at names types fs n here g there = absurd (none-some g (sym (function_at fs n ∙ ap (option_map function_of) here) ∙ there))

-- ---- all of them

-- those below a number
abbrev pub AreWrittenBelow : List (List ℕ) → Types → List Function → ℕ → Type 0
AreWrittenBelow names types fs k = (n : ℕ) → n < k → IsWrittenAt names types fs n

-- .. and one more
pub more_written : (names : List (List ℕ)) (types : Types) (fs : List Function) (k : ℕ) → AreWrittenBelow names types fs k → IsWrittenAt names types fs k → AreWrittenBelow names types fs (k + 1)
more_written names types fs k below here n less f at = ⊎_elim (λ lt. below n lt f at) (λ e. here f (subst (λ (m : ℕ). slice_get fs m ≡ Some f) e at)) (under n k less)
  where
    under : (m j : ℕ) → m < j + 1 → (m < j) ⊎ (m ≡ j)
    under m j lt = grind (arith)

beyond : {A : Type 0} (xs : List A) (n : ℕ) (x : A) → slice_get xs n ≡ Some x → n < length xs
beyond [] n x e = absurd (none-some x e)
beyond (y ∷ xs) zero x e = omega arith
beyond (y ∷ xs) (suc n) x e = let rest = beyond xs n x e in omega (arith, rest)

pub all_written_below : (names : List (List ℕ)) (types : Types) (fs : List Function) (k : ℕ) → length fs ≤ k → AreWrittenBelow names types fs k → HaveResultsWritten names types fs
all_written_below names types fs k le below = all_written names types fs (λ n f at. below n (let lt = beyond fs n f at in omega (arith, le, lt)) f at)
  where
    all_written : (ns : List (List ℕ)) (ts : Types) (gs : List Function) → ((n : ℕ) → IsWrittenAt ns ts gs n) → HaveResultsWritten ns ts gs
    all_written ns ts [] each = tt
    all_written ns ts (f ∷ gs) each = (each zero f refl, all_written ns ts gs (λ n g e. each (suc n) g e))
