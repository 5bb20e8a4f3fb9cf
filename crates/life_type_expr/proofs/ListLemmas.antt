-- Expressions of a list one after the other, as a loop reads them.
use Rattle.std.proofs.Common.{◌≡◌, ℕ, Bool, Option, ◌+◌, ◌<◌, ◌≤◌, List, [], ◌∷◌, ◌++◌, drop, get_or, length, map, None, Ok, refl, sym, ap, subst, ◌∙◌}
use Rattle.std.proofs.lemmas.List.{at_drop_all, at_drop_more}
use Rattle.life_types.specs.Types.{Types}
use Rattle.life_types.specs.declared.place.Place.{Place}
use Rattle.life_types.specs.declared.ty.Ty.{Ty}
use Rattle.life_typed.specs.TypedForm.{Typed}
use Rattle.life_names.specs.Checked.{Checked, Fails}
use Rattle.life_names.specs.Environment.{Scope}
use Rattle.life_names.specs.Found.{Misses, allowed, given}
use Rattle.life_type_expr.specs.Lists.{ListMeaning, Meaning, Targets, braced, count_fault, fitting, is_taken, lower_kind, misfits, passed, read_onto, target_at}
use Rattle.life_type_expr.specs.Operands.{literal_allowed}
use Rattle.life_names.specs.declared.fault.IllFault.{IllFault}
use Rattle.life_names.specs.declared.fault.IllFault.TheVariants as faults
use Rattle.life_names.specs.declared.fault.IllKind.{IllKind}
use Rattle.life_names.specs.declared.fault.IllKind.TheVariants as kinds
use Rattle.life_names.proofs.Steps.{bind_fails, bind_goes, given_fails, given_goes}

module _ {A : Type 0} (meaning : A → Meaning) (targets : Targets) (scope : Scope) where
  -- the item of this turn is the next
  pub next_read : (done : List Typed) (items : List A) (i : ℕ) (item : A) (types : Types) (total : Checked (List Typed)) → i < length items → item ≡ get_or items i item
      → read_onto targets done (map meaning (drop i items)) scope types ≡ total → read_onto targets done (map meaning (item ∷ drop (i + 1) items)) scope types ≡ total
  next_read done items i item types total more is so_far =
      ap (λ (p : A). read_onto targets done (map meaning (p ∷ drop (i + 1) items)) scope types) is
      ∙ sym (at_drop_more (λ (ps : List A). read_onto targets done (map meaning ps) scope types) items i item more) ∙ so_far

  -- what is read fails
  pub read_fails : (done : List Typed) (item : A) (items : List A) (types : Types) (e : IllFault) (total : Checked (List Typed))
      → read_onto targets done (map meaning (item ∷ items)) scope types ≡ total → Fails e (meaning item scope types) → Fails e total
  read_fails done item items types faults.NoMemory total so_far f = tt
  read_fails done item items types (faults.Ill kind place) total so_far f = sym so_far ∙ rw f refl

  -- it is a literal that isn't taken
  pub literal_fails : (done : List Typed) (n : ℕ) (item : A) (items : List A) (types after : Types) (x : Typed) (e : IllFault) (total : Checked (List Typed)) → n ≡ length done
      → read_onto targets done (map meaning (item ∷ items)) scope types ≡ total → meaning item scope types ≡ Ok (x, after)
      → Misses e (literal_allowed (is_taken after (target_at targets after n) x) x) → Fails e total
  literal_fails done n item items types after x faults.NoMemory total same so_far one f = tt
  literal_fails done n item items types after x (faults.Ill kind place) total same so_far one f = sym so_far ∙ rw (one, ← same, f) refl

  -- one more
  pub read_more : (done more : List Typed) (n : ℕ) (item : A) (items : List A) (types after : Types) (x : Typed) (total : Checked (List Typed)) → n ≡ length done
      → read_onto targets done (map meaning (item ∷ items)) scope types ≡ total → meaning item scope types ≡ Ok (x, after)
      → literal_allowed (is_taken after (target_at targets after n) x) x ≡ Ok tt → more ≡ done ++ x ∷ []
      → read_onto targets more (map meaning items) scope after ≡ total
  read_more done more n item items types after x total same so_far one taken grown = rw grown (sym (rw (one, ← same, taken) refl) ∙ so_far)

  -- there is no other
  pub read_all : (done : List Typed) (items : List A) (i : ℕ) (types : Types) (total : Checked (List Typed)) → length items ≤ i
      → read_onto targets done (map meaning (drop i items)) scope types ≡ total → total ≡ Ok (done, types)
  read_all done items i types total past so_far = sym so_far ∙ at_drop_all (λ (ps : List A). read_onto targets done (map meaning ps) scope types) items i past

-- ---- a turn of the loop

module _ {A : Type 0} (meaning : A → Meaning) (targets : Targets) (scope : Scope) (done : List Typed) (items : List A) (i : ℕ) (item : A) (types : Types) (total : Checked (List Typed))
    (more : i < length items) (is : item ≡ get_or items i item) (so_far : read_onto targets done (map meaning (drop i items)) scope types ≡ total) where
  -- the next fails
  pub turn_fails : (e : IllFault) → Fails e (meaning item scope types) → Fails e total
  turn_fails e f = read_fails meaning targets scope done item (drop (i + 1) items) types e total (next_read meaning targets scope done items i item types total more is so_far) f

  module _ (after : Types) (x : Typed) (n : ℕ) (counted : n ≡ length done) (target : Option Ty) (to : target ≡ target_at targets after n) (taken : Bool) (takes : taken ≡ is_taken after target x) (one : meaning item scope types ≡ Ok (x, after)) where
    taken_there : taken ≡ is_taken after (target_at targets after n) x
    taken_there = takes ∙ ap (λ (t : Option Ty). is_taken after t x) to

    -- it is a literal that isn't taken
    pub turn_literal : (e : IllFault) → Misses e (literal_allowed taken x) → Fails e total
    turn_literal e f =
        literal_fails meaning targets scope done n item (drop (i + 1) items) types after x e total counted (next_read meaning targets scope done items i item types total more is so_far) one
        (subst (λ (b : Bool). Misses e (literal_allowed b x)) taken_there f)

    -- one more is read
    pub turn_reads : (grown : List Typed) → literal_allowed taken x ≡ Ok tt → grown ≡ done ++ x ∷ [] → read_onto targets grown (map meaning (drop (i + 1) items)) scope after ≡ total
    turn_reads grown f g =
        read_more meaning targets scope done grown n item (drop (i + 1) items) types after x total counted (next_read meaning targets scope done items i item types total more is so_far) one
        (subst (λ (b : Bool). literal_allowed b x ≡ Ok tt) taken_there f) g

-- ---- what is passed, once it is read

module _ (general : IllKind) (other : Option IllKind) (place : Place) (targets : Targets) (es : List Meaning) (scope : Scope) (types : Types) where
  abbrev judged : List Typed × Types → Checked (List Typed)
  judged x = fitting (misfits general targets x.1 (lower_kind other (count_fault general targets (length x.0))) 0 x.0) place x

  pub passed_fails : (e : IllFault) → Fails e (read_onto targets [] es scope types) → Fails e (passed general other place targets es scope types)
  unfolding passed
  passed_fails e f = bind_fails (read_onto targets [] es scope types) judged e (passed general other place targets es scope types) refl f

  passed_as : (x : List Typed × Types) → read_onto targets [] es scope types ≡ Ok x → passed general other place targets es scope types ≡ judged x
  unfolding passed
  passed_as x f = bind_goes (read_onto targets [] es scope types) judged x (passed general other place targets es scope types) refl f

  module _ (x : List Typed × Types) (read : read_onto targets [] es scope types ≡ Ok x) (n : ℕ) (counted : n ≡ length x.0) (count : Option IllKind) (count_is : count ≡ count_fault general targets n)
      (lowest : Option IllKind) (lowest_is : lowest ≡ lower_kind other count) (fault : Option IllKind) (fault_is : fault ≡ misfits general targets x.1 lowest 0 x.0) where
    fault_there : fault ≡ misfits general targets x.1 (lower_kind other (count_fault general targets (length x.0))) 0 x.0
    fault_there =
        fault_is ∙ ap (λ (k : Option IllKind). misfits general targets x.1 k 0 x.0)
        (lowest_is ∙ ap (λ (k : Option IllKind). lower_kind other k) (count_is ∙ ap (λ (m : ℕ). count_fault general targets m) counted))

    judged_there : passed general other place targets es scope types ≡ given (allowed fault place) (λ _. Ok x)
    judged_there = passed_as x read ∙ ap (λ (k : Option IllKind). given (allowed k place) (λ _. Ok x)) (sym fault_there)

    pub passed_misfits : (e : IllFault) → Misses e (allowed fault place) → Fails e (passed general other place targets es scope types)
    passed_misfits e f = given_fails (allowed fault place) (λ _. Ok x) e (passed general other place targets es scope types) judged_there f

    pub passed_all : allowed fault place ≡ Ok tt → passed general other place targets es scope types ≡ Ok x
    passed_all f = given_goes (allowed fault place) (λ _. Ok x) tt (passed general other place targets es scope types) judged_there f

-- what a list in braces passes
pub braced_as : (targets : Targets) (l : ListMeaning) (opening : Place) (es : List Meaning) (scope : Scope) (types : Types) → l.opening ≡ opening → l.list ≡ es
    → braced targets l scope types ≡ passed kinds.WrongType None opening targets es scope types
braced_as targets l opening es scope types same_opening same_list =
    ap (λ (p : Place). passed kinds.WrongType None p targets l.list scope types) same_opening ∙ ap (λ (ms : List Meaning). passed kinds.WrongType None opening targets ms scope types) same_list
