-- A unique_ptr whose place is there is made to own something else, or nothing: however the object is written that it is, or that it is a member of.
use Rattle.std.proofs.Common.{◌≡◌, [], ℕ, false, List, ◌∷◌, Contains, None, refl, ap, ◌∙◌, subst, sym}
use Rattle.life_types.specs.Pointees.{ty_of}
use Rattle.life_types.specs.TypeTests.{is_value}
use Rattle.life_types.specs.Types.{Types}
use Rattle.life_types.specs.declared.place.Place.{Place}
use Rattle.life_types.specs.declared.ty.Ty.{Ty}
use Rattle.life_types.specs.declared.ty.Ty.TheVariants as ty
use Rattle.life_types.specs.declared.ty.TyId.{TyId}
use Rattle.life_typed.specs.TypedForm.{Form, Typed}
use Rattle.life_core.specs.Function.{Function}
use Rattle.life_core.specs.Operands.{Location, Name, Operand, object_named}
use Rattle.life_core.specs.Step.{Make, Move}
use Rattle.life_core.specs.declared.instr.Made.{Made}
use Rattle.life_core.specs.declared.instr.Made.TheVariants as made
use Rattle.life_proper.specs.WellFormed.{is_itself, is_made_for}
use Rattle.life_proper.specs.declared.known.Known.{Known}
use Rattle.life_writer.specs.Around.{Around, type_of}
use Rattle.life_writer.specs.ExpressionForms.{uses_if}
use Rattle.life_writer.specs.OwnerForms.{owned_operand}
use Rattle.life_writer.specs.Variables.{variable}
use Rattle.life_writer.specs.Writing.{Gives, State, emit, gives}
use Rattle.life_elab_laws.proofs.ExpressionForms.{Standing}
use Rattle.life_elab_laws.proofs.Handing.{HandingAlone}
use Rattle.life_elab_laws.proofs.Held.{place_there}
use Rattle.life_elab_laws.proofs.MoveSteps.{a_source, moves_part}
use Rattle.life_elab_laws.proofs.MovedOwners.{IsMovedFrom, source_part}
use Rattle.life_elab_laws.proofs.OwnedContents.{IsContentOf, is_found, is_over}
use Rattle.life_elab_laws.proofs.Setting.{Setting}
use Rattle.life_elab_laws.proofs.UniqueSteps.{a_made, lying_type, made_uses_of, makes_part, null_fits}
use Rattle.life_elab_laws.proofs.Gifts.{Gift, IsPlaceOf, a_given, a_place, both, nothing as no_gift}
use Rattle.life_elab_laws.proofs.GivenOwners.{named_ready}
use Rattle.life_elab_laws.proofs.MadeForms.{all_held_stay, place_ready}
use Rattle.life_elab_laws.proofs.Making.{IsOpen, IsPlace}
use Rattle.life_elab_laws.proofs.Parts.{Makes, leaf_part}
use Rattle.life_elab_laws.proofs.TakenOwners.{made_takes, object_consumed, takes_over}
use Rattle.life_elab_laws.proofs.WrittenMembers.{IsWriting}

module _ (a : Around) (visible : List ℕ) (types : Types) (texts : ℕ) (fs : List Function) (f : Function) (setting : Setting a types fs f) (u : Ty) (to : Operand) {Writes : State → State → Type 0} (ways : IsWriting types texts fs f u to Writes)
    (target : TyId) (l : Location) (typed : IsPlaceOf types texts fs f u false to → IsPlaceOf types texts fs f (ty.Unique target) false (Name l)) (ready : (n : ℕ) (k : List Known) → IsPlace to n k → IsPlace (Name l) n k) where
  abbrev Stood : State → Type 0
  Stood s = Standing a visible types texts fs f setting s

  abbrev P : Gift types texts fs f Operand
  P = a_place types texts fs f u false

  -- ---- nothing

  pub nulled_there : (place : Place) (s : State) → IsOpen s → Writes s (emit place (Make l made.Null) s)
  nulled_there place s opened =
      let G = no_gift types texts fs f in
      ways.behind s (gives tt s) G place (Make l made.Null) opened (leaf_part types texts fs f tt s G (λ b. tt) (λ b k alive. tt))
      (record {
        part = λ r. makes_part types texts fs f (both types texts fs f P G) (to, tt) target made.Null [] l place r (λ h. (typed h.0, null_fits types texts fs f target)) (λ n k q. (ready n k q.0, tt));
        kept = λ x n k blank q. tt;
        seen = λ n k q z m. absurd m;
      })

  -- ---- what is made

  -- .. what was found first
  made_there : (w : Gives Made) (place : Place) (s : State) → IsOpen s → Makes types texts fs f None s w (a_made types texts fs f target) → Writes s (emit place (Make l w.given) w.state)
  made_there w place s opened found =
      let Q = a_made types texts fs f target in
      ways.behind s w Q place (Make l w.given) opened found
      (record {
        part = λ r. makes_part types texts fs f (both types texts fs f P Q) (to, w.given) target w.given (made_uses_of w.given) l place r (λ h. (typed h.0, h.1)) (λ n k q. (ready n k q.0, q.1));
        kept = λ x n k blank q. all_held_stay a visible types texts fs f setting x (made_uses_of w.given) n k blank q;
        seen = λ n k q z m. absurd m;
      })

  -- .. or an owner or a struct that is given over
  over_there : (t : Ty) → is_value t ≡ false → ty_of types target ≡ t → (w : Gives ℕ) (place : Place) (s : State) → HandingAlone types texts fs f (w.given ∷ []) s w (a_given types texts fs f t) → Writes s (emit place (Make l (made.Of w.given)) w.state)
  over_there t plain holds w place s over =
      ways.over (w.given ∷ []) s w (a_given types texts fs f t) place (Make l (made.Of w.given)) over
      (takes_over types texts fs f t u to (l.local ∷ []) w.given (Make l (made.Of w.given)) place (made_takes f l w.given)
      (λ p object given. ap (λ (v : Ty). is_made_for types texts fs f v (made.Of w.given)) (lying_type types texts fs f target false l (typed p)) ∙ object_consumed types f t (ty_of types target) w.given plain holds given)
      (λ n k q. place_there (Name l) n k (ready n k q)))

  pub content_there : (id : TyId) (argument : Form) (closing : Place) → IsContentOf a visible types texts fs f setting target id argument closing → (place : Place) (s : State) → Stood s
      → (let w = owned_operand (type_of a id) (uses_if a argument) closing s in Writes s (emit place (Make l w.given) w.state))
  content_there id argument closing (is_found owned) place s stands = made_there (owned_operand (type_of a id) (uses_if a argument) closing s) place s stands.opened (owned.makes s stands)
  content_there id argument closing (is_over t plain holds makes) place s stands =
      let over = makes s stands in
      subst (λ (w : Gives Made). Writes s (emit place (Make l w.given) w.state)) (sym over.is) (over_there t plain holds over.given place s over.over)

  -- ---- what another one owned

  -- a temporary, or a variable, which is another local
  pub source_there : (w : Gives ℕ) (place : Place) (s : State) → IsOpen s → Makes types texts fs f None s w (a_source types texts fs f (ty.Unique target)) → is_itself types texts fs f w.given (Name l) ≡ false → Writes s (emit place (Move (Name l) w.given) w.state)
  source_there w place s opened found apart =
      let Q = a_source types texts fs f (ty.Unique target) in
      ways.behind s w Q place (Move (Name l) w.given) opened found
      (record {
        part = λ r. moves_part types texts fs f (both types texts fs f P Q) (to, w.given) (ty.Unique target) (Name l) w.given place r refl (λ h. (typed h.0, h.1)) (λ n k q. (ready n k q.0, q.1)) apart;
        kept = λ x n k blank q. place_ready a visible types texts fs f setting x (object_named w.given) n k blank q;
        seen = λ n k q z m. named_ready a visible types texts fs f setting (object_named w.given) n k q z m;
      })

  pub moved_there : (x : ℕ) (e : Typed) (is : IsMovedFrom a visible types texts fs f setting x e) → is.ty ≡ ty.Unique target → Contains visible x → (place : Place) (s : State) → Stood s → is_itself types texts fs f (variable s x) (Name l) ≡ false
      → Writes s (emit place (Move (Name l) (variable s x)) s)
  moved_there x e is alike c place s stands apart =
      source_there (gives (variable s x) s) place s stands.opened
      (subst (λ (v : Ty). Makes types texts fs f None s (gives (variable s x) s) (a_source types texts fs f v)) alike (source_part a visible types texts fs f setting x e is c s stands)) apart
