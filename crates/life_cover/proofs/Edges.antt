-- The derived facts of a point and of the points to which it leads.
use Rattle.std.proofs.Common.{◌≡◌, ℕ, zero, suc, ◌+◌, List, [], ◌∷◌, ◌++◌, Option, Some, None, Bool, true, false, sym, ap, subst, arith, ⊎_elim}
use Rattle.std.specs.Prelude.{Contains, slice_get, option_map}
use Rattle.std.proofs.lemmas.List.Elements.{Contains-append_left, Contains-append_right}
use Rattle.life_types.specs.Types.{Types}
use Rattle.life_types.specs.declared.place.Place.{Place}
use Rattle.life_core.specs.Function.{Function}
use Rattle.life_core.specs.Linked.{Lead, Linked, spot_at, goes, parts, edge_to, edges_out, edges_from, code_of, edges_of, numbered, spot_of_linked, spot_of}
use Rattle.life_core.specs.Tree.{Action, Question, Return}
use Rattle.life_core.specs.Step.{Step, Test}
use Rattle.life_core.specs.declared.stmt.Edge.{Edge}
use Rattle.life_core.specs.declared.stmt.Point.{Point}
use Rattle.life_pset.specs.Table.{IsOf, table_of}
use Rattle.life_pset.specs.Elements.{caused_at, caused_elements}
use Rattle.life_pset.specs.declared.element.Element.{Element}
use Rattle.life_pset.specs.declared.element.Fact.{Fact}
use Rattle.life_pset.proofs.Numbering.{numbered_contains}
use Rattle.life_contract.specs.Signatures.{Signature}
use Rattle.life_rules.specs.Carrying.{stops_at, unless, none_at, one_at, two_at}
use Rattle.life_rules.specs.Deriving.{Derives, entry, along}
use Rattle.life_rules.specs.Diagnosing.{IsDiagnosed, diags_at, diags_of_two, return_diags}
use Rattle.life_rules.specs.declared.diag.Diag.{Diag}
use Rattle.life_rules.proofs.Giving.{none_in_empty, at_head, cons_cases, flat_map_into}
use Rattle.life_store.proofs.CellLemmas.{none_some, some_same}
use Rattle.life_cover.specs.Kills.{Closed}
use Rattle.life_cover.proofs.PointerKinds.{IsClean, IsCleanOfTwo}

-- ---- the edges out of a point are the function's

edge_among : (code : List Linked) (k c n : ℕ) (l : Linked) (e : Edge) → k + n ≡ c → slice_get code n ≡ Some l → Contains (edges_out c l.leads) e → Contains (edges_from k code) e
edge_among [] k c n l e is there h = absurd (none_some there)
edge_among (u ∷ us) k c zero l e is there h =
    let same : u ≡ l = some_same there in
    let at_k : c ≡ k = omega (arith, is) in
    Contains-append_left (edges_out k u.leads) (edges_from (k + 1) us) e (subst (λ m. Contains (edges_out m u.leads) e) at_k (subst (λ (d : Linked). Contains (edges_out c d.leads) e) (sym same) h))
edge_among (u ∷ us) k c (suc n) l e is there h = Contains-append_right (edges_out k u.leads) (edges_from (k + 1) us) e (edge_among us (k + 1) c n l e (omega (arith, is)) there h)

edge_at : (f : Function) (b : ℕ) (l : Linked) (e : Edge) → numbered (code_of f) b ≡ Some l → Contains (edges_out b l.leads) e → Contains (edges_of f) e
edge_at f zero l e there h = absurd (none_some there)
edge_at f (suc n) l e there h = edge_among (code_of f) 1 (suc n) n l e (omega arith) there h

abbrev edge : ℕ → ℕ → Option Bool → Edge
edge b q branch = record { from = record { 0 = b }; to = record { 0 = q }; branch = branch }

first_edge : (b q : ℕ) (failed : Option ℕ) → Contains (edges_out b (parts (Some q) failed)) (edge b q (Some true))
first_edge b q failed = at_head (edge b q (Some true)) (edge_to b failed (Some false) ++ [])

second_edge : (b q : ℕ) (held : Option ℕ) → Contains (edges_out b (parts held (Some q))) (edge b q (Some false))
second_edge b q held = Contains-append_right (edge_to b held (Some true)) (edge_to b (Some q) (Some false) ++ []) (edge b q (Some false)) (at_head (edge b q (Some false)) [])

-- the elements with causes of a point are the function's
point_causes : (f : Function) (b : ℕ) (l : Linked) (e : Element) → numbered (code_of f) b ≡ Some l → Contains (caused_at f l) e → Contains (caused_elements f) e
point_causes f zero l e at h = absurd (none_some at)
point_causes f (suc n) l e at h = flat_map_into (caused_at f) (code_of f) l e (numbered_contains (code_of f) n l at) h

-- S' has the facts of S that the branch of a test doesn't stop
abbrev pub Passes : Test → Bool → (S S' : Fact → Type 0) → Type 0
Passes t branch S S' = (a : Fact) → S a → stops_at t (Some branch) a ≡ false → S' a

-- ---- what is derived at a point

abbrev pub FactsAt : List Signature → Types → Function → ℕ → Fact → Type 0
FactsAt sigs types f b x = Derives sigs types f (record { 0 = b }) x

derived_of : (sigs : List Signature) (types : Types) (f : Function) {p : Point} {x : Fact} → Derives sigs types f p x → IsOf (table_of types f) x
derived_of sigs types f (entry of held) = of
derived_of sigs types f (along e premises among held carries) = carries.0

one_held : (S : Fact → Type 0) (a : Fact) → S a → (y : Fact) → Contains (a ∷ []) y → S y
one_held S a s y h = ⊎_elim (λ e. subst S e s) (λ none. absurd (none_in_empty y none)) (cons_cases a [] y h)

two_held : (S : Fact → Type 0) (a b : Fact) → S a → S b → (y : Fact) → Contains (a ∷ b ∷ []) y → S y
two_held S a b s t y h = ⊎_elim (λ e. subst S e s) (λ more. one_held S b t y more) (cons_cases a (b ∷ []) y h)

module _ (sigs : List Signature) (types : Types) (f : Function) where
  spot_is : (b : ℕ) (l : Linked) → numbered (code_of f) b ≡ Some l → spot_of f (record { 0 = b }) ≡ Some l.spot
  spot_is b l here = ap (option_map spot_of_linked) here

  -- an instruction's point and the point to which it leads
  pub closed_at : (i : Step) (b q : ℕ) (place : Place) → numbered (code_of f) b ≡ Some (record { spot = spot_at place (Action i); leads = goes (Some q) }) → Closed sigs types f place i (FactsAt sigs types f b) (FactsAt sigs types f q)
  closed_at i b q place here =
      let l : Linked = record { spot = spot_at place (Action i); leads = goes (Some q) } in
      let e = edge b q None in
      let among = edge_at f b l e here (at_head e []) in
      let is = spot_is b l here in
      record {
        of = λ x s. derived_of sigs types f s;
        causes = λ e h. point_causes f b l e here h;
        none = λ x of h. along e [] among (λ y k. absurd (none_in_empty y k)) (of, subst (λ o. Contains (none_at sigs types f o) x) (sym is) h);
        one = λ a x s of h. along e (a ∷ []) among (one_held (FactsAt sigs types f b) a s) (of, subst (λ o. Contains (one_at sigs types f None o a) x) (sym is) h);
        two = λ a c x s t of h. along e (a ∷ c ∷ []) among (two_held (FactsAt sigs types f b) a c s t) (of, subst (λ o. Contains (two_at sigs types f o a c) x) (sym is) h);
      }

  -- a test's point, and the point to which a branch leads
  passes : (t : Test) (b q : ℕ) (place : Place) (branch : Bool) (leads : List Lead) → numbered (code_of f) b ≡ Some (record { spot = spot_at place (Question t); leads = leads }) → Contains (edges_out b leads) (edge b q (Some branch))
      → Passes t branch (FactsAt sigs types f b) (FactsAt sigs types f q)
  passes t b q place branch leads here out a s stays =
      let l : Linked = record { spot = spot_at place (Question t); leads = leads } in
      let e = edge b q (Some branch) in
      along e (a ∷ []) (edge_at f b l e here out) (one_held (FactsAt sigs types f b) a s)
      (derived_of sigs types f s, subst (λ o. Contains (one_at sigs types f (Some branch) o a) a) (sym (spot_is b l here)) (subst (λ g. Contains (unless g a) a) (sym stays) (at_head a [])))

  pub held_passes : (t : Test) (b q : ℕ) (place : Place) (failed : Option ℕ) → numbered (code_of f) b ≡ Some (record { spot = spot_at place (Question t); leads = parts (Some q) failed }) → Passes t true (FactsAt sigs types f b) (FactsAt sigs types f q)
  held_passes t b q place failed here = passes t b q place true (parts (Some q) failed) here (first_edge b q failed)

  pub failed_passes : (t : Test) (b q : ℕ) (place : Place) (held : Option ℕ) → numbered (code_of f) b ≡ Some (record { spot = spot_at place (Question t); leads = parts held (Some q) }) → Passes t false (FactsAt sigs types f b) (FactsAt sigs types f q)
  failed_passes t b q place held here = passes t b q place false (parts held (Some q)) here (second_edge b q held)

  -- where nothing is diagnosed, nothing is wrong at an instruction
  pub clean_at : (n : ℕ) → ((d : Diag) → IsDiagnosed sigs types n f d → ⊥) → (i : Step) (b : ℕ) (place : Place) (leads : List Lead) → numbered (code_of f) b ≡ Some (record { spot = spot_at place (Action i); leads = leads }) → IsClean sigs types n f place i (FactsAt sigs types f b)
  clean_at n none i b place leads here x s d h =
      let l : Linked = record { spot = spot_at place (Action i); leads = leads } in
      none d (record { 0 = b }, (x ∷ [], (one_held (FactsAt sigs types f b) x s, subst (λ o. Contains (diags_at sigs types n f o x) d) (sym (spot_is b l here)) h)))

  -- .. with two facts
  pub clean_of_two_at : (n : ℕ) → ((d : Diag) → IsDiagnosed sigs types n f d → ⊥) → (i : Step) (b : ℕ) (place : Place) (leads : List Lead) → numbered (code_of f) b ≡ Some (record { spot = spot_at place (Action i); leads = leads }) → IsCleanOfTwo sigs types n f place i (FactsAt sigs types f b)
  clean_of_two_at n none i b place leads here x y s t d h =
      let l : Linked = record { spot = spot_at place (Action i); leads = leads } in
      none d (record { 0 = b }, (x ∷ y ∷ [], (two_held (FactsAt sigs types f b) x y s t, subst (λ o. Contains (diags_of_two sigs types n f o x y) d) (sym (spot_is b l here)) h)))

  -- .. and with a result
  pub clean_return : (n : ℕ) → ((d : Diag) → IsDiagnosed sigs types n f d → ⊥) → (b : ℕ) (place : Place) (leads : List Lead) → numbered (code_of f) b ≡ Some (record { spot = spot_at place Return; leads = leads }) → (x : Fact) → FactsAt sigs types f b x → (d : Diag) → Contains (return_diags types n f place x) d → ⊥
  clean_return n none b place leads here x s d h =
      let l : Linked = record { spot = spot_at place Return; leads = leads } in
      none d (record { 0 = b }, (x ∷ [], (one_held (FactsAt sigs types f b) x s, subst (λ o. Contains (diags_at sigs types n f o x) d) (sym (spot_is b l here)) h)))
