-- What builds an object by an act that makes no temporaries fills it also where nothing else sees it: it stands as a variable would.
use Rattle.std.proofs.Common.{◌≡◌, ◌<◌, inl, inr, ℕ, false, List, [], ◌∷◌, ◌++◌, length, None, refl, sym, ap, ◌∙◌, subst, arith}
use Rattle.std.proofs.lemmas.List.{append_cancel_left}
use Rattle.std.proofs.lemmas.List.Elements.{Contains-append_left, Contains-push_cases}
use Rattle.life_types.specs.Types.{Types}
use Rattle.life_types.specs.declared.place.Place.{Place}
use Rattle.life_types.specs.declared.ty.Ty.{Ty}
use Rattle.life_core.specs.Function.{Function}
use Rattle.life_core.specs.Operands.{Operand, object_named}
use Rattle.life_core.specs.Tree.{Tree, trees}
use Rattle.life_proper.specs.declared.known.Known.TheVariants as known
use Rattle.life_writer.specs.Around.{Around}
use Rattle.life_writer.specs.Uses.{Remaining}
use Rattle.life_writer.specs.Writing.{Gives, State, gives}
use Rattle.life_elab_laws.proofs.Among.{Among}
use Rattle.life_elab_laws.proofs.ExpressionForms.{Standing}
use Rattle.life_elab_laws.proofs.FilledObjects.{FillsBehind, shown, shown_alive, shown_goes, with_it}
use Rattle.life_elab_laws.proofs.Fronts.{front_length}
use Rattle.life_elab_laws.proofs.Gifts.{Gift, a_place, both, nothing as no_gift}
use Rattle.life_elab_laws.proofs.GivenApart.{Open}
use Rattle.life_elab_laws.proofs.LookedLocals.{looked_of}
use Rattle.life_elab_laws.proofs.GivenOwners.{found_named}
use Rattle.life_elab_laws.proofs.Growing.{Grows}
use Rattle.life_elab_laws.proofs.Knowledge.{at_set}
use Rattle.life_elab_laws.proofs.MadeForms.{Builds, Found, IsNew, Steady, gift_of, looked_found}
use Rattle.life_elab_laws.proofs.Parts.{Part}
use Rattle.life_elab_laws.proofs.PendingTemporaries.{ArePending}
use Rattle.life_elab_laws.proofs.PlainActs.{IsPlainAct}
use Rattle.life_elab_laws.proofs.Setting.{Setting}

module _ (a : Around) (visible : List ℕ) (types : Types) (texts : ℕ) (fs : List Function) (f : Function) (setting : Setting a types fs f) (t : Ty) (s : State) (w : Gives Remaining) (is : Builds a visible types texts fs f setting t s w)
    (place : Place) (x : ℕ) (begun : State) (stands : Standing a visible types texts fs f setting begun) (still : Steady a visible types texts fs f setting w.state begun) (not_there : Open begun x → ⊥)
    (new : IsNew a visible types texts fs f setting s (shown types texts fs f x t begun) (object_named x)) (aside : Among x is.over → ⊥) (above : x < length begun.locals) where
  abbrev Q : Gift types texts fs f (Found is.making)
  Q = gift_of a visible types texts fs f setting is.making

  abbrev P : Gift types texts fs f (Found is.making × Operand)
  P = both types texts fs f Q (a_place types texts fs f t false)

  plain : IsPlainAct is.act (looked_found is.making is.found) (Steady a visible types texts fs f setting w.state)
  plain = is.alone refl

  abbrev acted : State
  acted = is.act place (object_named x) begun

  abbrev L : List ℕ
  L = begun.living ++ x ∷ []

  living_same : acted.living ≡ begun.living
  living_same = ap (λ (r : State). r.living) (plain.kept place (object_named x) begun begun.living)

  -- as if it were a variable
  beside_shown : (low : ℕ) → ArePending low begun → ArePending low (shown types texts fs f x t begun)
  beside_shown low p = record {
    past = p.past;
    ascend = p.ascend;
    each = p.each;
    beside = λ y m c. elim (Contains-push_cases begun.living x y c) [ inl old ↦ p.beside y m old | inr e ↦ not_there (inr (subst (λ (z : ℕ). Among z begun.pending) (sym e) m)) ];
  }

  stood : Standing a visible types texts fs f setting (shown types texts fs f x t begun)
  stood = record {
    table = stands.table;
    opened = λ y c. elim (Contains-push_cases begun.living x y c) [ inl old ↦ stands.opened y old | inr e ↦ omega (arith, e, above) ];
    pends = beside_shown _ stands.pends;
    seen = λ y z c found.
        let at = stands.seen y z c found in
        record { local = at.local; there = at.there; typed = at.typed; kind = at.kind; named = at.named; lives = Contains-append_left begun.living (x ∷ []) _ at.lives };
    apart = stands.apart;
  }

  part : Part types texts fs f P (is.found, object_named x) None (shown types texts fs f x t begun) (gives tt (shown types texts fs f x t acted)) (no_gift types texts fs f)
  part =
      subst (λ (xs : List ℕ). Part types texts fs f P (is.found, object_named x) None (shown types texts fs f x t begun) (gives tt (record acted { living = xs ++ x ∷ [] })) (no_gift types texts fs f)) (sym living_same)
      (subst (λ (r : State). Part types texts fs f P (is.found, object_named x) None (shown types texts fs f x t begun) (gives tt r) (no_gift types texts fs f)) (plain.kept place (object_named x) begun L)
      (is.acts place (object_named x) (shown types texts fs f x t begun) stood still new))

  further : Grows begun acted
  further = record {
    locals = part.grown.locals;
    types = part.grown.types;
    count = part.grown.count;
    variables = part.grown.variables;
    living = living_same;
    pending = part.grown.pending;
    fresh = part.grown.fresh;
    pends = λ low p. let q = part.grown.pends low (beside_shown low p) in record { past = q.past; ascend = q.ascend; each = q.each; beside = λ y m c. q.beside y m (Contains-append_left acted.living (x ∷ []) y c) };
    outside = part.grown.outside;
  }

  -- it looks at nothing but what was found
  act_code : part.code ≡ plain.code place (object_named x) begun
  act_code = append_cancel_left begun.code part.code (plain.code place (object_named x) begun) (sym part.written ∙ plain.written place (object_named x) begun)

  pub plain_fills : FillsBehind types texts fs f x t Q is.found begun acted
  plain_fills = record {
    grown = further;
    registers = part.registers;
    code = part.code;
    written = part.written;
    runs = λ lt object b at_it typed. let q = part.runs b (typed, at_it) in record {
      fine = q.fine;
      goes = λ k alive blank ready.
          let there : x < length k = omega (arith, lt, further.count, front_length acted.locals f.locals b.locals, alive.sized) in
          let h =
          q.goes (with_it types texts fs f x t k) (shown_alive types texts fs f x t begun k alive blank there) (
            is.stays x (length begun.locals) k blank aside ready,
            record { local = x; uses = refl; below = lt; held = at_set k x known.Ready there },
          ) in
          shown_goes types texts fs f x t begun acted part.code k alive blank lt there further h
          (λ y m.
          found_named a visible types texts fs f setting is.making is.found (length begun.locals) k ready y
          (plain.looks place (object_named x) begun still y (subst (λ (c : List Tree). Among y (looked_of (trees c))) act_code m)));
    };
  }
