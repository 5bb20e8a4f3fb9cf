-- The instruction that ends locals, where there are any.
use Rattle.std.proofs.Common.{◌≡◌, ◌<◌, ◌≤◌, ◌⊎◌, ℕ, Bool, true, ◌&&◌, List, [], ◌∷◌, ◌++◌, length, refl, sym, ap, append-nil}
use Rattle.std.proofs.lemmas.Bool.{and_from, and_parts}
use Rattle.std.specs.List.{list_all}
use Rattle.life_types.specs.Types.{Types}
use Rattle.life_types.specs.declared.place.Place.{Place}
use Rattle.life_core.specs.Function.{Function}
use Rattle.life_core.specs.Step.{End}
use Rattle.life_core.specs.Touched.{touched_by}
use Rattle.life_core.specs.Tree.{Tree, Acts, trees}
use Rattle.life_proper.specs.declared.known.Known.{Known}
use Rattle.life_proper.specs.ReadyKnown.{can_leave}
use Rattle.life_proper.specs.WellFormed.{can_end}
use Rattle.life_proper.proofs.ReadyTests.{all_ready}
use Rattle.life_writer.specs.Variables.{end}
use Rattle.life_writer.specs.Writing.{State, with_code}
use Rattle.life_elab_laws.proofs.BornLocals.{Bears}
use Rattle.life_elab_laws.proofs.Ending.{set_blank}
use Rattle.life_elab_laws.proofs.Falling.{Falls, falls_acts}
use Rattle.life_elab_laws.proofs.GivenApart.{Apart, Open, none_apart}
use Rattle.life_elab_laws.proofs.Shaping.{IsFine, fine_acts, fine_none, lasts_at}

module _ (types : Types) (texts : ℕ) (fs : List Function) (f : Function) where
  -- what can end, and isn't passing
  abbrev pub ends_here : ℕ → Bool
  ends_here x = can_end types texts fs f x && lasts_at f x

  both_tests : (xs : List ℕ) → list_all ends_here xs ≡ true → (list_all (can_end types texts fs f) xs ≡ true) × (list_all (lasts_at f) xs ≡ true)
  both_tests [] h = (refl, refl)
  both_tests (x ∷ xs) h =
      let one = and_parts (ends_here x) (list_all ends_here xs) h in
      let here = and_parts (can_end types texts fs f x) (lasts_at f x) one.0 in
      let more = both_tests xs one.1 in
      (and_from (can_end types texts fs f x) (list_all (can_end types texts fs f) xs) here.0 more.0, and_from (lasts_at f x) (list_all (lasts_at f) xs) here.1 more.1)

  pub record IsEnded (xs : List ℕ) (place : Place) (s : State) : Type 0 where
    pub code : List Tree
    pub written : end xs place s ≡ with_code (s.code ++ code) s
    pub fine : list_all ends_here xs ≡ true → IsFine types texts fs f code
    pub falls : (k : List Known) → can_leave k xs ≡ true → Falls types f code k (set_blank xs k)
    -- it looks at nothing
    pub apart : (s t : State) → length s.locals ≤ length t.locals → ((x : ℕ) → Open t x → Open s x ⊎ ((length s.locals ≤ x) × (x < length t.locals))) → Apart f s t (trees code)
    -- .. and brings nothing to life
    pub bears : (s : State) → Bears f s (trees code)

  pub ended : (xs : List ℕ) (place : Place) (s : State) → IsEnded xs place s
  ended [] place s = record {
    code = [];
    written = ap (λ (c : List Tree). with_code c s) (sym (append-nil s.code));
    fine = λ ends. fine_none types texts fs f;
    falls = λ k ready. refl;
    apart = none_apart f;
    bears = λ s x object m. absurd m;
  }
  ended (x ∷ xs) place s = record {
    code = Acts place (End (x ∷ xs)) ∷ [];
    written = refl;
    fine = λ ends. let is = both_tests (x ∷ xs) ends in
        fine_acts types texts fs f place (End (x ∷ xs)) (record { given = and_from (list_all (lasts_at f) (x ∷ xs)) true is.1 refl; formed = is.0 });
    falls = λ k ready. falls_acts types f place (End (x ∷ xs)) k (all_ready k (touched_by f (End (x ∷ xs))) refl ready refl);
    apart = none_apart f;
    bears = λ s x object m. absurd m;
  }

  pub end_living : (xs : List ℕ) (place : Place) (s : State) → (end xs place s).living ≡ s.living
  end_living [] place s = refl
  end_living (x ∷ xs) place s = refl
