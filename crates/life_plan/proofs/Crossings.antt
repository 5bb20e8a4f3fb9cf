-- The pairs that an edge carries come of no fact, of one or of two.
use Rattle.std.proofs.Common.{◌≡◌, ℕ, Bool, List, [], ◌∷◌, Option, inl, inr, subst}
use Rattle.std.specs.Prelude.{Contains, option_map}
use Rattle.life_types.specs.Types.{Types}
use Rattle.life_core.specs.Function.{Function, function_of}
use Rattle.life_core.specs.Linked.{spot_of}
use Rattle.life_core.specs.Node.{spot_seen}
use Rattle.life_core.specs.Tree.{Spot}
use Rattle.life_core.specs.declared.stmt.Edge.{Edge}
use Rattle.life_pset.specs.Table.{Names, Table, table_of}
use Rattle.life_pset.specs.declared.element.Fact.{Fact}
use Rattle.life_pset.proofs.Members.{none_in_empty, in_head, in_tail, cons_cases}
use Rattle.life_contract.specs.Signatures.{Signature}
use Rattle.life_rules.specs.Carrying.{Gives}
use Rattle.life_rules.specs.FactSets.{CarriesPair, Holds}
use Rattle.life_plan.specs.Crossing.{Crosses, IsContext, crossing_in, crossing_of}
use Rattle.life_plan.specs.declared.context.EdgeContext.{EdgeContext}

-- what has these parts is what the edge crosses
pub crossing_at : (table : Table) (sigs : List Signature) (types : Types) (f : Function) (edge : Edge) (spot : Option Spot) → table ≡ table_of types f → spot ≡ spot_of f edge.from
    → record { table = table; sigs = sigs; types = types; f = f; branch = edge.branch; spot = spot } ≡ crossing_of sigs types f edge
crossing_at table sigs types f edge spot is at = λ i. record { table = is i; sigs = sigs; types = types; f = f; branch = edge.branch; spot = at i }

-- .. and so is what the code has at hand
pub crossing_is : (c : EdgeContext) → IsContext c → crossing_in c ≡ crossing_of c.sigs.now c.types.now (function_of c.f.now) c.edge
crossing_is c is = crossing_at c.table.now c.sigs.now c.types.now (function_of c.f.now) c.edge (option_map spot_seen c.spot) is.table is.spot

module _ (sigs : List Signature) (types : Types) (f : Function) (edge : Edge) (from : ℕ → ℕ → Bool) where
  abbrev AllHeld : List Fact → Type 0
  AllHeld premises = (y : Fact) → Contains premises y → Holds (table_of types f) from y

  one_held : (x : Fact) → Holds (table_of types f) from x → AllHeld (x ∷ [])
  one_held x held y h = elim (cons_cases x [] y h) [ inl is ↦ subst (Holds (table_of types f) from) is held | inr none ↦ absurd (none_in_empty y none) ]

  two_held : (x z : Fact) → Holds (table_of types f) from x → Holds (table_of types f) from z → AllHeld (x ∷ z ∷ [])
  two_held x z held other y h = elim (cons_cases x (z ∷ []) y h) [ inl is ↦ subst (Holds (table_of types f) from) is held | inr more ↦ one_held z other y more ]

  pub crosses_carries : (l m : ℕ) → Crosses (crossing_of sigs types f edge) from l m → CarriesPair sigs types f edge from l m
  crosses_carries l m h =
      elim h [
        | inl none ↦ (none.0, (none.1.0, ([], ((λ y k. absurd (none_in_empty y k)), ((l, (m, none.1.0)), none.1.1)))))
        | inr some ↦ elim some [
          | inl one ↦
              let p = one.1.1 in
              (p.0, (p.1.0, (one.0 ∷ [], (one_held one.0 one.1.0, ((l, (m, p.1.0)), p.1.1)))))
          | inr two ↦
              let p = two.1.1.1.1 in
              (p.0, (p.1.0, (two.0 ∷ two.1.0 ∷ [], (two_held two.0 two.1.0 two.1.1.0 two.1.1.1.0, ((l, (m, p.1.0)), p.1.1)))))
        ]
      ]

  given_crosses : (premises : List Fact) (x : Fact) (l m : ℕ) → Names (table_of types f) l m x → AllHeld premises → Gives sigs types f edge premises x → Crosses (crossing_of sigs types f edge) from l m
  given_crosses [] x l m names held gives = inl (x, (names, gives))
  given_crosses (a ∷ []) x l m names held gives = inr (inl (a, (held a (in_head a []), (x, (names, gives)))))
  given_crosses (a ∷ b ∷ []) x l m names held gives = inr (inr (a, (b, (held a (in_head a (b ∷ [])), (held b (in_tail a (b ∷ []) b (in_head b [])), (x, (names, gives)))))))
  given_crosses (a ∷ b ∷ c ∷ more) x l m names held gives = absurd gives

  pub carries_crosses : (l m : ℕ) → CarriesPair sigs types f edge from l m → Crosses (crossing_of sigs types f edge) from l m
  carries_crosses l m h = given_crosses h.1.1.0 h.0 l m h.1.0 h.1.1.1.0 h.1.1.1.1.1
