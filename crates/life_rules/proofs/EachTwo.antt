-- What each two of some facts make wrong, as lists of it are made.
use Rattle.std.proofs.Common.{◌≡◌, List, [], ◌++◌, Contains, inl, inr, subst, sym}
use Rattle.std.specs.List.{flat_map}
use Rattle.std.proofs.lemmas.List.Elements.{Contains-append_cases, Contains-append_left, Contains-append_right}
use Rattle.life_pset.specs.declared.element.Fact.{Fact}
use Rattle.life_rules.proofs.Giving.{flat_map_from, flat_map_into, none_in_empty}
use Rattle.life_rules.specs.Pairs.{Adds, IsOfPair}
use Rattle.life_rules.specs.declared.diag.Diag.{Diag}

-- one fact after the other, each with all
pub each_with_all : (g : Fact → Fact → List Diag) (facts : List Fact) (before after : List Diag) → after ≡ before ++ flat_map (λ a. flat_map (g a) facts) facts → Adds (IsOfPair g facts) before after
each_with_all g facts before after is d =
    let all = flat_map (λ a. flat_map (g a) facts) facts in (
      λ h.
          elim (Contains-append_cases before all d (subst (λ (ds : List Diag). Contains ds d) is h)) [
            | inl was ↦ inl was
            | inr new ↦
                let x = flat_map_from (λ a. flat_map (g a) facts) facts d new in
                let y = flat_map_from (g x.0) facts d x.1.1 in
                inr (x.0, (y.0, (x.1.0, (y.1.0, y.1.1))))
          ],
      λ h.
          subst (λ (ds : List Diag). Contains ds d) (sym is)
          (elim h [
            | inl was ↦ Contains-append_left before all d was
            | inr new ↦ Contains-append_right before all d (flat_map_into (λ a. flat_map (g a) facts) facts new.0 d new.1.1.0 (flat_map_into (g new.0) facts new.1.0 d new.1.1.1.0 new.1.1.1.1))
          ]),
    )

-- what gives nothing adds nothing
pub no_pairs : (g : Fact → Fact → List Diag) (facts : List Fact) (out : List Diag) → ((a b : Fact) → g a b ≡ []) → Adds (IsOfPair g facts) out out
no_pairs g facts out none d = (
  λ h. inl h,
  λ h. elim h [ inl was ↦ was | inr new ↦ absurd (none_in_empty d (subst (λ (ds : List Diag). Contains ds d) (none new.0 new.1.0) new.1.1.1.1)) ],
)

-- one thing after the other
pub then_pairs : (g h : Fact → Fact → List Diag) (facts : List Fact) (before between after : List Diag) → Adds (IsOfPair g facts) before between → Adds (IsOfPair h facts) between after
    → Adds (IsOfPair (λ a b. g a b ++ h a b) facts) before after
then_pairs g h facts before between after first second d = (
  λ k.
      elim ((second d).0 k) [
        | inl earlier ↦ elim ((first d).0 earlier) [
          | inl was ↦ inl was
          | inr one ↦ inr (one.0, (one.1.0, (one.1.1.0, (one.1.1.1.0, Contains-append_left (g one.0 one.1.0) (h one.0 one.1.0) d one.1.1.1.1))))
        ]
        | inr two ↦ inr (two.0, (two.1.0, (two.1.1.0, (two.1.1.1.0, Contains-append_right (g two.0 two.1.0) (h two.0 two.1.0) d two.1.1.1.1))))
      ],
  λ k.
      (second d).1 (elim k [
        | inl was ↦ inl ((first d).1 (inl was))
        | inr new ↦ elim (Contains-append_cases (g new.0 new.1.0) (h new.0 new.1.0) d new.1.1.1.1) [
          | inl one ↦ inl ((first d).1 (inr (new.0, (new.1.0, (new.1.1.0, (new.1.1.1.0, one))))))
          | inr two ↦ inr (new.0, (new.1.0, (new.1.1.0, (new.1.1.1.0, two))))
        ]
      ]),
)
