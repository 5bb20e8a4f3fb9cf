-- Whether two are the same, by what is read of locations.
use Rattle.std.proofs.Common.{◌≡◌, ℕ, Bool, true, false, List, [], ◌∷◌, Option, Some, None, Result, Err, refl, sym, ap, ◌∙◌}
use Rattle.std.specs.Prelude.{ℤ}
use Rattle.life_types.specs.Trees.{members_at}
use Rattle.life_types.specs.Types.{Types}
use Rattle.life_types.specs.declared.ty.Ty.{Ty}
use Rattle.life_types.specs.declared.ty.Ty.TheVariants as variant
use Rattle.life_types.specs.declared.ty.TyId.{TyId}
use Rattle.life_core.specs.Function.{Function}
use Rattle.life_core.specs.Operands.{Location}
use Rattle.life_store.specs.Cells.{at}
use Rattle.life_store.specs.Content.{Content, Object}
use Rattle.life_store.specs.Doing.{compared, same_into, told}
use Rattle.life_store.specs.Effects.{Attempt, Got, GotLost, Next, Setting, on_got, put_cell, then_get}
use Rattle.life_store.specs.Iterators.{iterator, same_position, standing}
use Rattle.life_store.specs.Kinds.{Plain}
use Rattle.life_store.specs.Parts.{Parts, Single, Raw, Iterates, Views, Text, Vector, Unique, Member, NoMember, location_parts, parts_of, struct_of}
use Rattle.life_store.specs.Places.{location_cell}
use Rattle.life_store.specs.References.{Rows}
use Rattle.life_store.specs.State.{Cell, Number, Points, Pointer, State, Target, To}
use Rattle.life_store.specs.Views.{are_same, seen_bytes, usable, used}
use Rattle.life_seen.specs.Housed.{IsHoused}
use Rattle.life_seen.specs.Kinds.{Kinds}
use Rattle.life_seen.specs.Named.{names_of}
use Rattle.life_seen.specs.Seen.{object_seen, seen}
use Rattle.life_seen.proofs.References.{found_seen}
use Rattle.life_pointers.specs.Attempts.{itself, tried}
use Rattle.life_pointers.specs.Bytes.{SeesPlain}
use Rattle.life_pointers.specs.Made.{alike, viewed_alike}
use Rattle.life_pointers.specs.Pointers.{pointer_seen}
use Rattle.life_pointers.specs.declared.pointer.Pointer as machine
use Rattle.life_pointers.specs.declared.pointer.Pointer.TheVariants as leads
use Rattle.life_pointers.specs.declared.stop.Stop.{Stop}
use Rattle.life_pointers.specs.declared.stop.Stop.TheVariants as stop
use Rattle.life_pointers.proofs.MeantSteps.{iterators_compared, views_compared}
use Rattle.life_cells.specs.Cells.{pointer_in, state_in, state_of}
use Rattle.life_cells.specs.Compared.{are_views, is_viewing}
use Rattle.life_cells.specs.declared.cell.Cell as held
use Rattle.life_cells.proofs.CellLemmas.{no_iterator, no_view, points}

-- ---- which comparison

pub other_parts : (s : Setting) (types : Types) (f : Function) (p : Parts) (a b : Location) (st : State) → are_views p ≡ false → compared s types f p a b st ≡ compared s types f Iterates a b st
other_parts s types f Single a b st e = refl
other_parts s types f Raw a b st e = refl
other_parts s types f Iterates a b st e = refl
other_parts s types f Views a b st e = absurd (clash e)
  where
    clash : true ≡ false → ⊥
    clash x = cc
other_parts s types f (Text ty) a b st e = refl
other_parts s types f (Vector ty element) a b st e = refl
other_parts s types f (Unique ty target) a b st e = refl
other_parts s types f (Member first others) a b st e = refl
other_parts s types f NoMember a b st e = refl

false_true : false ≡ true → ⊥
false_true e = cc

pub view_parts : (p : Parts) → are_views p ≡ true → p ≡ Views
view_parts Single e = absurd (false_true e)
view_parts Raw e = absurd (false_true e)
view_parts Iterates e = absurd (false_true e)
view_parts Views e = refl
view_parts (Text ty) e = absurd (false_true e)
view_parts (Vector ty element) e = absurd (false_true e)
view_parts (Unique ty target) e = absurd (false_true e)
view_parts (Member first others) e = absurd (false_true e)
view_parts NoMember e = absurd (false_true e)

no_struct : (part : TyId → Parts) (ids : List TyId) → are_views (struct_of part ids) ≡ false
no_struct part [] = refl
no_struct part (id ∷ ids) = refl

pub views_by_type : (types : Types) (part : TyId → Parts) (ty : Option Ty) → are_views (parts_of types part ty) ≡ is_viewing ty
views_by_type types part None = refl
views_by_type types part (Some variant.Void) = refl
views_by_type types part (Some variant.Bool) = refl
views_by_type types part (Some variant.Char) = refl
views_by_type types part (Some variant.Int) = refl
views_by_type types part (Some variant.Long) = refl
views_by_type types part (Some variant.Size) = refl
views_by_type types part (Some variant.Text) = refl
views_by_type types part (Some variant.View) = refl
views_by_type types part (Some (variant.Vector element)) = refl
views_by_type types part (Some (variant.Unique target)) = refl
views_by_type types part (Some (variant.Raw target constant)) = refl
views_by_type types part (Some (variant.Reference target constant)) = refl
views_by_type types part (Some (variant.Iterator target constant)) = refl
views_by_type types part (Some (variant.Span target constant)) = refl
views_by_type types part (Some (variant.Struct number)) = no_struct part (members_at types number)

-- ---- what stops it

abbrev pub no_answer : Attempt Bool
no_answer = GotLost

pub stops_compared : (e : Stop) → then_get (tried pointer_seen (Err e)) (λ v. no_answer) ≡ tried itself (Err e)
stops_compared (stop.Trap kind) = refl
stops_compared (stop.Fault kind) = refl
stops_compared stop.Lost = refl

module _ (s : Setting) (types : Types) (f : Function) (st : State) (a b : Location) where
  abbrev m : Content
  m = st.world.content

  abbrev left : Option Cell
  left = location_cell types f a st

  abbrev right : Option Cell
  right = location_cell types f b st

  abbrev same_views : Pointer → Pointer → Attempt Bool
  same_views v w = Got (are_same (seen_bytes s.texts m v) (seen_bytes s.texts m w))

  -- ---- of views

  pub views_lost : None ≡ pointer_in left → compared s types f Views a b st ≡ GotLost
  views_lost none = ap (λ (x : Attempt Pointer). then_get x (λ v. then_get (used m right) (same_views v))) (no_view m left none)

  pub views_stop : (v : Pointer) (x : Attempt Pointer) → Some v ≡ pointer_in left → None ≡ pointer_in right → x ≡ usable m v → compared s types f Views a b st ≡ then_get x (λ w. no_answer)
  views_stop v x holds none is =
      ap (λ o. then_get (used m o) (λ w. then_get (used m right) (same_views w))) (points left v holds)
      ∙ ap (λ (y : Attempt Pointer). then_get y (λ w. then_get (used m right) (same_views w))) (sym is)
      ∙ (λ j. then_get x (λ w. then_get (no_view m right none j) (same_views w)))

  pub views_there : (v w : Pointer) → Some v ≡ pointer_in left → Some w ≡ pointer_in right → compared s types f Views a b st ≡ viewed_alike s.texts m v w
  views_there v w first second = views_compared types f st a b v w (points left v first) (points right w second) s

  -- ---- of iterators

  pub iterators_lost : None ≡ pointer_in left → compared s types f Iterates a b st ≡ GotLost
  iterators_lost none = ap (λ (x : Attempt Pointer). then_get x (λ v. then_get (iterator m right) (λ w. same_position v w))) (no_iterator m left none)

  pub iterators_stop : (v : Pointer) (x : Attempt Pointer) → Some v ≡ pointer_in left → None ≡ pointer_in right → x ≡ standing m v → compared s types f Iterates a b st ≡ then_get x (λ w. no_answer)
  iterators_stop v x holds none is =
      ap (λ o. then_get (iterator m o) (λ w. then_get (iterator m right) (λ u. same_position w u))) (points left v holds)
      ∙ ap (λ (y : Attempt Pointer). then_get y (λ w. then_get (iterator m right) (λ u. same_position w u))) (sym is)
      ∙ (λ j. then_get x (λ w. then_get (no_iterator m right none j) (λ u. same_position w u)))

  pub iterators_there : (v w : Pointer) → Some v ≡ pointer_in left → Some w ≡ pointer_in right → compared s types f Iterates a b st ≡ alike m v w
  iterators_there v w first second = iterators_compared types f st a b v w (points left v first) (points right w second)

-- ---- characters that are seen

module _ (kinds : Kinds) (c : Content) (rows : Rows) (housed : IsHoused kinds c rows) where
  pub plain_seen : (p : machine.Pointer) (v : Option Cell) → v ≡ Some (Points (pointer_seen p)) → ((t : Target) (o : Object) → v ≡ Some (Points (To t)) → at (seen kinds c rows).objects t.object ≡ Some o → kinds o.ty 0 ≡ Plain)
      → SeesPlain kinds c rows p
  plain_seen leads.Null v is h = tt
  plain_seen leads.Wild v is h = tt
  plain_seen (leads.To index count word object moment) v is h = λ o there. h _ (object_seen kinds (names_of c rows) o) is (found_seen kinds c rows housed object o there)
  plain_seen (leads.Static s) v is h = tt

-- ---- whatever was written and is to be read

module _ (s : Setting) (types : Types) (f : Function) (a b : Location) (m : Content) (cells : List held.Cell) (output : List ℕ) (input : List ℤ) where
  same_compared : (p : Parts) → compared s types f p a b (state_of m cells output input) ≡ compared s types f p a b (state_in m cells)
  same_compared Single = refl
  same_compared Raw = refl
  same_compared Iterates = refl
  same_compared Views = refl
  same_compared (Text ty) = refl
  same_compared (Vector ty element) = refl
  same_compared (Unique ty target) = refl
  same_compared (Member first others) = refl
  same_compared NoMember = refl

  pub told_into : (r : ℕ) (equal : Bool) (result : Result Bool Stop) → tried itself result ≡ compared s types f (location_parts types f a) a b (state_in m cells)
      → same_into s types f r a b equal (state_of m cells output input) ≡ on_got (tried itself result) (λ same. Next (put_cell r (Number (told same equal)) (state_of m cells output input)))
  told_into r equal result is =
      ap (λ (x : Attempt Bool). on_got x (λ same. Next (put_cell r (Number (told same equal)) (state_of m cells output input)))) (same_compared (location_parts types f a) ∙ sym is)
