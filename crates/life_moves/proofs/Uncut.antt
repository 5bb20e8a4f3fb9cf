-- No pointer is cut in two where a value of a type lies.
use Rattle.std.proofs.Common.{◌≡◌, ⊎_elim, inl, inr, ℕ, ◌+◌, ◌-◌, ◌<◌, ◌≤◌, sym, ap, ◌∙◌, arith}
use Rattle.life_types.specs.Types.{Types}
use Rattle.life_types.specs.declared.ty.TyId.{TyId}
use Rattle.life_store.specs.Kinds.{Plain, Owner, Pointing, kind_in}
use Rattle.life_store.specs.Parts.{Parts, Single, Raw, Iterates, Views, Text, Vector, Unique, Member, NoMember, parts_at, width}
use Rattle.life_forest.specs.Within.{LiesWithin}
use Rattle.life_seen.specs.Kinds.{kinds_of}
use Rattle.life_seen.proofs.WholePointers.{row_cases, stays_within, whole_pointers}
use Rattle.life_values.specs.Moved.{AreUncut}
use Rattle.life_values.proofs.CopiedRowed.{either}

-- the first word of a value is in the midst of no pointer
first_begins : (p : Parts) (i : ℕ) → kind_in p 0 ≡ Pointing i → i ≡ 0
first_begins Single i e = absurd (clash e)
  where
    clash : Plain ≡ Pointing i → ⊥
    clash h = cc
first_begins Raw i e = same e
  where
    same : Pointing 0 ≡ Pointing i → i ≡ 0
    same h = cc
first_begins Iterates i e = same e
  where
    same : Pointing 0 ≡ Pointing i → i ≡ 0
    same h = cc
first_begins Views i e = same e
  where
    same : Pointing 0 ≡ Pointing i → i ≡ 0
    same h = cc
first_begins (Text ty) i e = absurd (clash e)
  where
    clash : Owner ≡ Pointing i → ⊥
    clash h = cc
first_begins (Vector ty element) i e = absurd (clash e)
  where
    clash : Owner ≡ Pointing i → ⊥
    clash h = cc
first_begins (Unique ty target) i e = absurd (clash e)
  where
    clash : Owner ≡ Pointing i → ⊥
    clash h = cc
first_begins (Member first others) i e =
    row_cases (width first) (kind_in first) (kind_in others) 0
    (λ lt s. first_begins first i (sym s ∙ e))
    (λ v s t. let z : v ≡ 0 = omega (arith, s) in first_begins others i (ap (kind_in others) (sym z) ∙ sym t ∙ e))
first_begins NoMember i e = absurd (clash e)
  where
    clash : Plain ≡ Pointing i → ⊥
    clash h = cc

pub part_uncut : (types : Types) (whole : TyId) (w : ℕ) (part : TyId) → LiesWithin types whole w part → 1 ≤ width (parts_at types part) → AreUncut (kinds_of types whole) w (width (parts_at types part))
part_uncut types whole w part within some u begins =
    ⊎_elim
    (λ le. inl le)
    (λ lt.
    ⊎_elim
    (λ past. inr (inl past))
    (λ before.
    ⊎_elim
    (λ low.
    let v : w + (u - w) ≡ u = omega (arith, low) in
    let small : u - w < width (parts_at types part) = omega (arith, low, before) in
    let h = stays_within (parts_at types part) (u - w) small (sym (within.words (u - w) small) ∙ ap (kinds_of types whole) v ∙ begins) in
    inr (inr (low, omega (arith, low, h))))
    (λ high.
    let z : u + (w - u) ≡ w + 0 = omega (arith, high) in
    let k = first_begins (parts_at types part) (w - u) (sym (within.words 0 (omega (arith, some))) ∙ ap (kinds_of types whole) (sym z) ∙ whole_pointers (parts_at types whole) u (w - u) (omega (arith, lt)) begins) in
    absurd (omega (arith, high, k)))
    (either w u))
    (either (w + width (parts_at types part)) u))
    (either (u + 5) w)
