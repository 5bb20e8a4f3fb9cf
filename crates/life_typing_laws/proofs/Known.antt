-- What is known of each function as definitions go by, and stays known.
use Rattle.std.proofs.Common.{◌≡◌, ◌⊎◌, inl, inr, ⊎_elim, ℕ, zero, suc, ◌+◌, true, Some, List, [], ◌∷◌, ◌++◌, length, slice_get, slice_set, refl, sym, ap, subst, ◌∙◌, arith, length-append}
use Rattle.life_types.specs.Types.{Types}
use Rattle.life_types.proofs.TreeLemmas.{in_more, last_in, stays_in}
use Rattle.life_tree.specs.declared.function.Function.{Function}
use Rattle.life_typed.specs.Programs.{FunctionForm, ProgramForm, is_main}
use Rattle.life_typed.specs.declared.basic.TheConstants.{INT}
use Rattle.life_names.specs.Environment.{SignatureView}
use Rattle.life_typing.specs.Names.{DeclaredView}
use Rattle.life_well_typed.specs.Expressions.{parameter_types}
use Rattle.life_well_typed.specs.Functions.{IsWellTypedFunction, lists_parameters}
use Rattle.life_typing_laws.proofs.Steps.{same_some}
use Rattle.life_well_typed.specs.Tables.{AreVariables}
use Rattle.life_typing_laws.proofs.Growing.{grows_not, grows_on, object_later}
use Rattle.life_typing_laws.proofs.Pieces.{CountIs, parameter_piece}
use Rattle.life_typing_laws.proofs.Scopes.{set_else, set_length, set_there}
use Rattle.life_typing_laws.specs.Sound.{Grows, HasFunction, Keeps}

-- ---- one function

-- the program has in the end what there is here
pub record HasInEnd (p : ProgramForm) (names : List (List ℕ)) (types : Types) (signatures : List SignatureView) : Type 0 where
  pub named : p.names ≡ names
  pub grown : Grows types p.types
  pub functions : (n : ℕ) (s : SignatureView) → slice_get signatures n ≡ Some s → HasFunction p n s

-- a function with a body
pub record HasBody (names : List (List ℕ)) (types : Types) (signatures : List SignatureView) (form : FunctionForm) (s : SignatureView) : Type 0 where
  pub parameters : parameter_types (Some form) ≡ s.parameters
  pub is : (p : ProgramForm) → HasInEnd p names types signatures → IsWellTypedFunction p form
  pub variables : AreVariables types form.locals

pub record IsKnown (names : List (List ℕ)) (types : Types) (signatures : List SignatureView) (form : FunctionForm) (d : DeclaredView) (s : SignatureView) : Type 0 where
  pub result : form.result ≡ s.result
  pub promises : length form.parameters ≡ length s.parameters
  pub promise : lists_parameters (length form.parameters) form.promise ≡ true
  pub said : (f : Function) → CountIs (parameter_piece f) d.pieces (length s.parameters)
  pub main : is_main names form.name ≡ true → form.result ≡ INT
  pub body : d.has_body ≡ true → HasBody names types signatures form s

known_on : (names : List (List ℕ)) (a b : Types) (before after : List SignatureView) (form : FunctionForm) (d : DeclaredView) (s : SignatureView) → Grows a b → Keeps before after → IsKnown names a before form d s → IsKnown names b after form d s
known_on names a b before after form d s grows keeps known = record {
  result = known.result;
  promises = known.promises;
  promise = known.promise;
  said = known.said;
  main = known.main;
  body = λ has. record {
    parameters = (known.body has).parameters;
    is = λ p final. (known.body has).is p (record { named = final.named; grown = grows_on a b p.types grows final.grown; functions = λ n t e. final.functions n t (keeps n t e) });
    variables = λ n l e. object_later a b l.ty grows ((known.body has).variables n l e);
  };
}

-- ---- all of them

pub record KnownAt (names : List (List ℕ)) (types : Types) (signatures : List SignatureView) (forms : List FunctionForm) (ds : List DeclaredView) (n : ℕ) (s : SignatureView) : Type 0 where
  pub form : FunctionForm
  pub declared : DeclaredView
  pub form_there : slice_get forms n ≡ Some form
  pub declared_there : slice_get ds n ≡ Some declared
  pub is : IsKnown names types signatures form declared s

pub record AreKnown (names : List (List ℕ)) (types : Types) (signatures : List SignatureView) (forms : List FunctionForm) (ds : List DeclaredView) : Type 0 where
  pub forms_count : length forms ≡ length signatures
  pub declared_count : length ds ≡ length signatures
  pub each : (n : ℕ) (s : SignatureView) → slice_get signatures n ≡ Some s → KnownAt names types signatures forms ds n s

-- the table grows
pub known_grown : (names : List (List ℕ)) (a b : Types) (signatures : List SignatureView) (forms : List FunctionForm) (ds : List DeclaredView) → Grows a b → AreKnown names a signatures forms ds → AreKnown names b signatures forms ds
known_grown names a b signatures forms ds grows known = record {
  forms_count = known.forms_count;
  declared_count = known.declared_count;
  each = λ n s e.
      let k = known.each n s e in
      record {
        form = k.form;
        declared = k.declared;
        form_there = k.form_there;
        declared_there = k.declared_there;
        is = known_on names a b signatures signatures k.form k.declared s grows (λ _ _ there. there) k.is;
      };
}

-- one more is declared
module _ (names : List (List ℕ)) (types : Types) (signatures : List SignatureView) (forms : List FunctionForm) (ds : List DeclaredView) (known : AreKnown names types signatures forms ds) where
  pub known_more : (form : FunctionForm) (d : DeclaredView) (s : SignatureView) → IsKnown names types (signatures ++ s ∷ []) form d s → AreKnown names types (signatures ++ s ∷ []) (forms ++ form ∷ []) (ds ++ d ∷ [])
  known_more form d s new = record {
    forms_count = count forms form known.forms_count;
    declared_count = count ds d known.declared_count;
    each = λ n t e. ⊎_elim (λ old. older n t old) (λ last. newest n t last.0 last.1) (in_more signatures s n t e);
  }
    where
      count : {A : Type 0} (xs : List A) (x : A) → length xs ≡ length signatures → length (xs ++ x ∷ []) ≡ length (signatures ++ s ∷ [])
      count xs x e =
          let first : length (xs ++ x ∷ []) ≡ length xs + 1 = length-append xs (x ∷ []) in
          let second : length (signatures ++ s ∷ []) ≡ length signatures + 1 = length-append signatures (s ∷ []) in
          omega (arith, first, second, e)

      older : (n : ℕ) (t : SignatureView) → slice_get signatures n ≡ Some t → KnownAt names types (signatures ++ s ∷ []) (forms ++ form ∷ []) (ds ++ d ∷ []) n t
      older n t old =
          let k = known.each n t old in
          record {
            form = k.form;
            declared = k.declared;
            form_there = stays_in forms (form ∷ []) n k.form k.form_there;
            declared_there = stays_in ds (d ∷ []) n k.declared k.declared_there;
            is = known_on names types types signatures (signatures ++ s ∷ []) k.form k.declared t
                (grows_not types) (λ m u there. stays_in signatures (s ∷ []) m u there) k.is;
          }

      at_end : {A : Type 0} (xs : List A) (x : A) (n : ℕ) → n ≡ length signatures → length xs ≡ length signatures → slice_get (xs ++ x ∷ []) n ≡ Some x
      at_end xs x n e size = subst (λ (i : ℕ). slice_get (xs ++ x ∷ []) i ≡ Some x) (size ∙ sym e) (last_in xs x)

      newest : (n : ℕ) (t : SignatureView) → n ≡ length signatures → s ≡ t → KnownAt names types (signatures ++ s ∷ []) (forms ++ form ∷ []) (ds ++ d ∷ []) n t
      newest n t last same = record {
        form = form;
        declared = d;
        form_there = at_end forms form n last known.forms_count;
        declared_there = at_end ds d n last known.declared_count;
        is = subst (λ (u : SignatureView). IsKnown names types (signatures ++ s ∷ []) form d u) same new;
      }

-- ---- one is changed

pub same_or_not : (n k : ℕ) → (n ≡ k) ⊎ (n ≡ k → ⊥)
same_or_not zero zero = inl refl
same_or_not zero (suc k) = inr (λ e. omega (arith, e))
same_or_not (suc n) zero = inr (λ e. omega (arith, e))
same_or_not (suc n) (suc k) = ⊎_elim (λ same. inl (ap suc same)) (λ other. inr (λ e. other (omega (arith, e)))) (same_or_not n k)

module _ (names : List (List ℕ)) (types : Types) (signatures : List SignatureView) (forms : List FunctionForm) (ds : List DeclaredView) (known : AreKnown names types signatures forms ds) where
  pub known_changed : (n : ℕ) (form old_form : FunctionForm) (d old_d : DeclaredView) (s : SignatureView) → slice_get forms n ≡ Some old_form → slice_get ds n ≡ Some old_d → slice_get signatures n ≡ Some s
      → IsKnown names types signatures form d s → AreKnown names types signatures (slice_set forms n form) (slice_set ds n d)
  known_changed n form old_form d old_d s form_was d_was there new = record {
    forms_count = set_length forms n form ∙ known.forms_count;
    declared_count = set_length ds n d ∙ known.declared_count;
    each = λ k t e. ⊎_elim (λ same. changed k t e same) (λ other. kept k t e other) (same_or_not n k);
  }
    where
      kept : (k : ℕ) (t : SignatureView) → slice_get signatures k ≡ Some t → (n ≡ k → ⊥) → KnownAt names types signatures (slice_set forms n form) (slice_set ds n d) k t
      kept k t e other =
          let old = known.each k t e in
          record {
            form = old.form;
            declared = old.declared;
            form_there = set_else forms n k form other ∙ old.form_there;
            declared_there = set_else ds n k d other ∙ old.declared_there;
            is = old.is;
          }

      changed : (k : ℕ) (t : SignatureView) → slice_get signatures k ≡ Some t → n ≡ k → KnownAt names types signatures (slice_set forms n form) (slice_set ds n d) k t
      changed k t e same =
          let is_it : s ≡ t = same_some s t (sym there ∙ subst (λ (i : ℕ). slice_get signatures i ≡ Some t) (sym same) e) in
          subst (λ (i : ℕ). KnownAt names types signatures (slice_set forms n form) (slice_set ds n d) i t) same (record {
            form = form;
            declared = d;
            form_there = set_there forms n old_form form form_was;
            declared_there = set_there ds n old_d d d_was;
            is = subst (λ (u : SignatureView). IsKnown names types signatures form d u) is_it new;
          })
