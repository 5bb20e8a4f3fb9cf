-- Owners, structs and spans come to life as the meaning says.
use Rattle.std.proofs.Common.{◌≡◌, ◌≤◌, ℕ, List, [], ◌∷◌, Option, Some, None, Result, Ok, Err, ap, refl, sym, ◌∙◌, arith}
use Rattle.std.specs.Prelude.{slice_get}
use Rattle.life_types.specs.Trees.{IsOrdered, members_at}
use Rattle.life_types.specs.Types.{Types}
use Rattle.life_types.specs.declared.ty.Ty.{Ty}
use Rattle.life_types.specs.declared.ty.Ty.TheVariants as ty
use Rattle.life_types.specs.declared.ty.TyId.{TyId}
use Rattle.life_core.specs.declared.instr.Form.{Form}
use Rattle.life_store.specs.Births.{born_owner, live_of}
use Rattle.life_store.specs.Content.{Content}
use Rattle.life_store.specs.Effects.{Setting, Attempt, GotTrap, Next, Strays, on_got, put_cell, put_content}
use Rattle.life_store.specs.Owners.{empty_view, fresh, object_with}
use Rattle.life_store.specs.Parts.{Parts, parts_at, parts_of, struct_of, width}
use Rattle.life_store.specs.State.{Wild, Named, Points, State}
use Rattle.life_forest.proofs.Laying.{parts_made}
use Rattle.life_store.specs.References.{Rows}
use Rattle.life_store.specs.declared.object.BirthFault.{BirthFault}
use Rattle.life_store.specs.declared.object.BirthFault.TheVariants as fault
use Rattle.life_store.specs.declared.run.TrapKind.TheVariants as trap
use Rattle.life_seen.specs.Kinds.{Kinds}
use Rattle.life_values.specs.Fresh.{Comes}
use Rattle.life_interp.specs.Births.{birth_of, unborn, BearsNothing}
use Rattle.life_interp.specs.Steps.{TellsEnd}
use Rattle.life_interp.specs.declared.births.Birth.TheVariants as birth
use Rattle.life_interp.specs.declared.ending.Ending.{Ending}
use Rattle.life_interp.specs.declared.ending.Ending.TheVariants as ending

object_nothing : birth.Object ≡ birth.Nothing → ⊥
object_nothing e = cc

object_wild : birth.Object ≡ birth.Wild → ⊥
object_wild e = cc

object_view : birth.Object ≡ birth.View → ⊥
object_view e = cc

wild_nothing : birth.Wild ≡ birth.Nothing → ⊥
wild_nothing e = cc

wild_view : birth.Wild ≡ birth.View → ⊥
wild_view e = cc

wild_object : birth.Wild ≡ birth.Object → ⊥
wild_object e = cc

view_nothing : birth.View ≡ birth.Nothing → ⊥
view_nothing e = cc

view_wild : birth.View ≡ birth.Wild → ⊥
view_wild e = cc

view_object : birth.View ≡ birth.Object → ⊥
view_object e = cc

nothing_wild : birth.Nothing ≡ birth.Wild → ⊥
nothing_wild e = cc

nothing_view : birth.Nothing ≡ birth.View → ⊥
nothing_view e = cc

nothing_object : birth.Nothing ≡ birth.Object → ⊥
nothing_object e = cc

module _ (s : Setting) (types : Types) (part : TyId → Parts) (id : TyId) (form : Form) (x : ℕ) (st : State) where
  nothing_strays : (o : Option Ty) → birth_of o ≡ birth.Nothing → live_of s id (parts_of types part o) form x st ≡ Strays
  nothing_strays (Some ty.Text) e = absurd (object_nothing e)
  nothing_strays (Some (ty.Vector element)) e = absurd (object_nothing e)
  nothing_strays (Some (ty.Unique target)) e = absurd (object_nothing e)
  nothing_strays (Some (ty.Struct number)) e = absurd (object_nothing e)
  nothing_strays (Some (ty.Iterator target constant)) e = absurd (wild_nothing e)
  nothing_strays (Some ty.View) e = absurd (view_nothing e)
  nothing_strays (Some (ty.Span target constant)) e = absurd (view_nothing e)
  nothing_strays None e = refl
  nothing_strays (Some _) e = refl

  wild_lives : (o : Option Ty) → birth_of o ≡ birth.Wild → live_of s id (parts_of types part o) form x st ≡ Next (put_cell x (Points Wild) st)
  wild_lives (Some ty.Text) e = absurd (object_wild e)
  wild_lives (Some (ty.Vector element)) e = absurd (object_wild e)
  wild_lives (Some (ty.Unique target)) e = absurd (object_wild e)
  wild_lives (Some (ty.Struct number)) e = absurd (object_wild e)
  wild_lives (Some (ty.Iterator target constant)) e = refl
  wild_lives (Some ty.View) e = absurd (view_wild e)
  wild_lives (Some (ty.Span target constant)) e = absurd (view_wild e)
  wild_lives None e = absurd (nothing_wild e)
  wild_lives (Some _) e = absurd (nothing_wild e)

  view_lives : (o : Option Ty) → birth_of o ≡ birth.View → live_of s id (parts_of types part o) form x st ≡ Next (put_cell x (Points empty_view) st)
  view_lives (Some ty.Text) e = absurd (object_view e)
  view_lives (Some (ty.Vector element)) e = absurd (object_view e)
  view_lives (Some (ty.Unique target)) e = absurd (object_view e)
  view_lives (Some (ty.Struct number)) e = absurd (object_view e)
  view_lives (Some (ty.Iterator target constant)) e = absurd (wild_view e)
  view_lives (Some ty.View) e = refl
  view_lives (Some (ty.Span target constant)) e = refl
  view_lives None e = absurd (nothing_view e)
  view_lives (Some _) e = absurd (nothing_view e)

  members_live : (ids : List TyId) → 1 ≤ width (struct_of part ids) → live_of s id (struct_of part ids) form x st ≡ born_owner s id (struct_of part ids) form x st
  members_live [] wide = absurd (omega (arith, wide))
  members_live (k ∷ ids) wide = refl

  object_lives : (o : Option Ty) → birth_of o ≡ birth.Object → 1 ≤ width (parts_of types part o) → live_of s id (parts_of types part o) form x st ≡ born_owner s id (parts_of types part o) form x st
  object_lives (Some ty.Text) e wide = refl
  object_lives (Some (ty.Vector element)) e wide = refl
  object_lives (Some (ty.Unique target)) e wide = refl
  object_lives (Some (ty.Struct number)) e wide = members_live (members_at types number) wide
  object_lives (Some (ty.Iterator target constant)) e wide = absurd (wild_object e)
  object_lives (Some ty.View) e wide = absurd (view_object e)
  object_lives (Some (ty.Span target constant)) e wide = absurd (view_object e)
  object_lives None e wide = absurd (nothing_object e)
  object_lives (Some _) e wide = absurd (nothing_object e)

module _ (s : Setting) (types : Types) (ordered : IsOrdered types) (id : TyId) (form : Form) (x : ℕ) (st : State) where
  pub lives_not : birth_of (slice_get types.types id.0) ≡ birth.Nothing → live_of s id (parts_at types id) form x st ≡ Strays
  lives_not e = ap (λ (p : Parts). live_of s id p form x st) (parts_made types ordered id) ∙ nothing_strays s types (parts_at types) id form x st (slice_get types.types id.0) e

  pub lives_wild : birth_of (slice_get types.types id.0) ≡ birth.Wild → live_of s id (parts_at types id) form x st ≡ Next (put_cell x (Points Wild) st)
  lives_wild e = ap (λ (p : Parts). live_of s id p form x st) (parts_made types ordered id) ∙ wild_lives s types (parts_at types) id form x st (slice_get types.types id.0) e

  pub lives_seeing : birth_of (slice_get types.types id.0) ≡ birth.View → live_of s id (parts_at types id) form x st ≡ Next (put_cell x (Points empty_view) st)
  lives_seeing e = ap (λ (p : Parts). live_of s id p form x st) (parts_made types ordered id) ∙ view_lives s types (parts_at types) id form x st (slice_get types.types id.0) e

  pub lives_owning : birth_of (slice_get types.types id.0) ≡ birth.Object → 1 ≤ width (parts_at types id) → live_of s id (parts_at types id) form x st ≡ born_owner s id (parts_at types id) form x st
  lives_owning e wide =
      let made = parts_made types ordered id in
      ap (λ (p : Parts). live_of s id p form x st) made
      ∙ object_lives s types (parts_at types) id form x st (slice_get types.types id.0) e (let w = ap width made in omega (arith, w, wide))
      ∙ ap (λ (p : Parts). born_owner s id p form x st) (sym made)

-- the type is in the table
pub object_known : (o : Option Ty) → birth_of o ≡ birth.Object → (t : Ty) × (o ≡ Some t)
object_known (Some t) e = (t, refl)
object_known None e = absurd (nothing_object e)

-- the local is given the object, or the step ends
module _ (s : Setting) (ty : TyId) (parts : Parts) (form : Form) (x : ℕ) (c : Content) where
  pub owner_fails : (e : Ending) (st : State) → st.world.content ≡ c → BearsNothing (object_with s ty parts (fresh s form parts) c) e → TellsEnd (born_owner s ty parts form x st) e
  owner_fails (ending.Trap kind) st is h = ap (λ (d : Content). on_got (object_with s ty parts (fresh s form parts) d) (λ b. Next (put_cell x (Named b.0) (put_content b.1 st)))) is ∙ ap (λ a. on_got a (λ b. Next (put_cell x (Named b.0) (put_content b.1 st)))) h
  owner_fails (ending.Fault kind) st is h = absurd h
  owner_fails ending.Stray st is h = absurd h
  owner_fails ending.NoMemory st is h = tt
  owner_fails ending.WriteFault st is h = h

-- what isn't born
pub unborn_so : (meant : Attempt (ℕ × Content)) (b : BirthFault) → (b ≡ fault.Cells → meant ≡ GotTrap trap.Cells) → BearsNothing meant (unborn b)
unborn_so meant fault.Cells h = h refl
unborn_so meant fault.NoMemory h = tt

no_cells : fault.NoMemory ≡ fault.Cells → ⊥
no_cells e = cc

ok_failed : {A : Type 0} (a : A) (b : BirthFault) → ◌≡◌ {A = Result A BirthFault} (Ok a) (Err b) → ⊥
ok_failed a b e = cc

failed_same : {A : Type 0} (b d : BirthFault) → ◌≡◌ {A = Result A BirthFault} (Err b) (Err d) → b ≡ d
failed_same b d e = cc

pub none_came : {A : Type 0} (kinds : Kinds) (meant : Attempt Content) (result : Result A BirthFault) (b : BirthFault) (c : Content) (rows : Rows) → Comes kinds meant result c rows → result ≡ Err b → b ≡ fault.Cells → meant ≡ GotTrap trap.Cells
none_came kinds meant (Ok a) b c rows h e is = absurd (ok_failed a b e)
none_came kinds meant (Err fault.Cells) b c rows h e is = h
none_came kinds meant (Err fault.NoMemory) b c rows h e is = absurd (no_cells (failed_same fault.NoMemory b e ∙ is))
