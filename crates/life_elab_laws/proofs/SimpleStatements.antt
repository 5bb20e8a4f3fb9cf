-- Assignments, steps, calls and output as statements.
use Rattle.std.proofs.Common.{◌≡◌, ℕ, Bool, true, List, [], ◌∷◌, None, nat_lt, drop, length, reverse, ◌∙◌}
use Rattle.std.proofs.lemmas.Bool.{and_parts}
use Rattle.life_elab_laws.proofs.StatementKinds.{are_read_items, is_read_item, is_read_simple}
use Rattle.life_types.specs.Types.{Types}
use Rattle.life_types.specs.declared.place.Place.{Place}
use Rattle.life_typed.specs.TypedStatement.{ItemForm, SimpleForm}
use Rattle.life_core.specs.Function.{Function}
use Rattle.life_well_typed.specs.Statements.{AreItems, IsSimple}
use Rattle.life_well_typed.specs.Visible.{Visible}
use Rattle.life_writer.specs.Around.{Around, end_line}
use Rattle.life_writer.specs.Writing.{State, gives}
use Rattle.life_elab.specs.SimpleForms.{done, simple}
use Rattle.life_elab.specs.StatementForms.{item, items, output}
use Rattle.life_elab_laws.proofs.Doing.{DoesLevel, does_full}
use Rattle.life_elab_laws.proofs.Following.{Follows}
use Rattle.life_elab_laws.proofs.Gifts.{nothing}
use Rattle.life_elab_laws.proofs.Parts.{leaf_part, then_part}
use Rattle.life_elab_laws.proofs.EndSteps.{end_living}
use Rattle.life_elab_laws.proofs.TemporaryEnds.{temporary_ends}
use Rattle.life_writer.specs.Variables.{end_pending}
use Rattle.life_elab_laws.proofs.Setting.{Setting}
use Rattle.life_elab_laws.proofs.Outputs.{item_part}
use Rattle.life_elab_laws.proofs.Simples.{Acts, done_part}
use Rattle.life_elab_laws.proofs.VariablePlaces.{Stands, stands_later}
use Rattle.life_elab_laws.proofs.OwnLocals.{first_own}

module _ (a : Around) (types : Types) (texts : ℕ) (fs : List Function) (f : Function) (setting : Setting a types fs f) (v : Visible) (in_loop : Bool) where
  -- its temporaries end behind it
  acts_does : (s s' : State) (behind : Place) → Follows types f a v s → Acts a v.visible types texts fs f setting s s' → DoesLevel types texts fs f a v in_loop s (end_pending (length s.pending) behind s')
  acts_does s s' behind follows part = record {
    does = does_full types texts fs f a v in_loop None s (gives tt s') (nothing types texts fs f) follows (temporary_ends types texts fs f (first_own a) setting.own) behind part;
    level = end_living types texts fs f (reverse (drop (length s.pending) s'.pending)) behind s' ∙ part.grown.living;
  }

  pub simple_does : (it : SimpleForm) (behind : Place) (s : State) → is_read_simple texts a.program it ≡ true → IsSimple a.program a.function.locals a.function.result v.visible it → Follows types f a v s → DoesLevel types texts fs f a v in_loop s (simple a it behind s)
  simple_does it behind s b h follows = acts_does s (done a it behind s) behind follows (done_part a v.visible types texts fs f setting it behind s b h follows.stands)

  pub items_do : nat_lt (end_line a) texts ≡ true → (these : List ItemForm) (behind : Place) (s : State) → are_read_items texts a.program these ≡ true → AreItems a.program a.function.locals a.function.result v.visible these → Follows types f a v s
      → DoesLevel types texts fs f a v in_loop s (output a these behind s)
  items_do lines these behind s b h follows = acts_does s (items a these behind s) behind follows (go these s b h follows.stands)
    where
      go : (these : List ItemForm) (s : State) → are_read_items texts a.program these ≡ true → AreItems a.program a.function.locals a.function.result v.visible these → Stands a v.visible s
          → Acts a v.visible types texts fs f setting s (items a these behind s)
      go [] s b h stands = leaf_part types texts fs f tt s (nothing types texts fs f) (λ b. tt) (λ b k alive. tt)
      go (i ∷ others) s b h stands =
          let parts = and_parts (is_read_item texts a.program i) (are_read_items texts a.program others) b in
          let first = item_part a v.visible types texts fs f setting lines i behind s parts.0 h.0 stands in
          let none = nothing types texts fs f in
          then_part types texts fs f none tt None s (gives tt (item a i behind s)) (gives tt (items a others behind (item a i behind s))) none none stands.opened first
          (go others (item a i behind s) parts.1 h.1 (stands_later a v.visible s (item a i behind s) first.grown stands))
