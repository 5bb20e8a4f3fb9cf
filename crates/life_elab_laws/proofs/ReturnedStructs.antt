-- A struct is given back: one that is copied or that a call gives, or one that is filled member by member where the result lies.
use Rattle.std.proofs.Common.{◌≡◌, ◌<◌, inr, ℕ, Bool, true, false, length, List, None, Some, [], sym, ap, ◌∙◌, subst}
use Rattle.life_types.specs.TypeTests.{is_void}
use Rattle.life_types.specs.Types.{Types, class}
use Rattle.life_types.specs.declared.place.Place.{Place}
use Rattle.life_types.specs.declared.ty.Ty.{Ty}
use Rattle.life_types.specs.declared.ty.Ty.TheVariants as ty
use Rattle.life_typed.specs.BaseTypes.{type_at}
use Rattle.life_typed.specs.TypedForm.{Typed, whole as whole_form}
use Rattle.life_core.specs.Function.{Function}
use Rattle.life_core.specs.Operands.{object_named}
use Rattle.life_core.specs.Tree.{Returns}
use Rattle.life_core.specs.declared.instr.Form.{Form as LiveForm}
use Rattle.life_well_typed.specs.Visible.{Visible}
use Rattle.life_writer.specs.Around.{Around, result_local}
use Rattle.life_writer.specs.ExpressionForms.{uses}
use Rattle.life_writer.specs.Giving as giving
use Rattle.life_writer.specs.Uses.{Act, Remaining, lived}
use Rattle.life_writer.specs.Writing.{Gives, State, gives}
use Rattle.life_elab.specs.StatementForms.{result, result_by, result_given}
use Rattle.life_elab.specs.Statements.{left}
use Rattle.life_elab_laws.proofs.Doing.{DoesLevel}
use Rattle.life_elab_laws.proofs.FilledObjects.{FillsObject}
use Rattle.life_elab_laws.proofs.FilledResults.{begun, below, filled_back}
use Rattle.life_elab_laws.proofs.Coming.{Comes, lived_comes}
use Rattle.life_elab_laws.proofs.Following.{Follows, IsResultObject}
use Rattle.life_elab_laws.proofs.Gifts.{nothing as no_gift}
use Rattle.life_elab_laws.proofs.Handing.{HandingAlone, handing_none}
use Rattle.life_elab_laws.proofs.MadeForms.{BuildsIn}
use Rattle.life_elab_laws.proofs.MadeStructs.{IsBuiltUnseen, at_once, by_members}
use Rattle.life_elab_laws.proofs.Parts.{Makes, leaf_part}
use Rattle.life_elab_laws.proofs.ReturnedOwners.{owner_given_back}
use Rattle.life_elab_laws.proofs.AdmittedTypes.{IsBuilt, IsTabled}
use Rattle.life_elab_laws.proofs.Setting.{Setting}
use Rattle.life_elab_laws.proofs.ExpressionForms.{Standing}

module _ (a : Around) (types : Types) (texts : ℕ) (fs : List Function) (f : Function) (setting : Setting a types fs f) (v : Visible) (in_loop : Bool) (s : State) (h : Follows types f a v s) (object : IsResultObject a s) (number : ℕ)
    (whole : type_at a.program.types a.function.result ≡ ty.Struct number) (tabled : IsTabled a.program.types (ty.Struct number)) (some : is_void (type_at a.program.types a.function.result) ≡ false) (keyword token : Place) (e : Typed) where
  abbrev t : Ty
  t = type_at a.program.types a.function.result

  abbrev Given : State
  Given = left 0 keyword (Returns keyword) (result_given a (Some e) keyword token s)

  built : IsBuilt a.program.types t
  built = inr (inr (subst (IsTabled a.program.types) (sym whole) tabled))

  -- what is left to do goes where the result lies
  abbrev placed : Gives Remaining → State
  placed w = (w.given (result a keyword) w.state).state

  abbrev w : Gives Remaining
  w = giving.given (uses a (whole_form e)) (ty.Struct number) token s

  by_struct : result_by a (class (Some t)) (uses a (whole_form e)) t keyword token s ≡ placed w
  by_struct = ap (λ (q : Ty). result_by a (class (Some q)) (uses a (whole_form e)) q keyword token s) whole

  -- .. member by member
  module _ (form : LiveForm) (act : Act) (fills : (place : Place) (x : ℕ) (s : State) → Standing a v.visible types texts fs f setting s → x < length s.locals → FillsObject types texts fs f x (ty.Struct number) s (act place (object_named x) s)) where
    found : Makes types texts fs f None s (gives tt s) (no_gift types texts fs f)
    found = leaf_part types texts fs f tt s (no_gift types texts fs f) (λ b. tt) (λ b k alive. tt)

    abbrev hands : HandingAlone types texts fs f [] s (gives tt s) (no_gift types texts fs f)
    hands = handing_none types texts fs f (no_gift types texts fs f) tt s (gives tt s) (no_gift types texts fs f) found

    abbrev comes : Comes types texts fs f [] s (gives tt s) (no_gift types texts fs f) hands t
    comes = lived_comes types texts fs f s (gives tt s) (no_gift types texts fs f) found form t

    abbrev start : State
    start = begun a types texts fs f setting v in_loop s h object built some keyword token (gives tt s) (no_gift types texts fs f) [] hands comes act

    here : FillsObject types texts fs f (result_local a) t start (act keyword (object_named (result_local a)) start)
    here = subst (λ (q : Ty). FillsObject types texts fs f (result_local a) q start (act keyword (object_named (result_local a)) start)) (sym whole) (fills keyword (result_local a) start h.stands (below a types texts fs f setting v in_loop s h object built some keyword token (gives tt s) (no_gift types texts fs f) [] hands comes act))

    members_back : w ≡ gives (lived form act) s → DoesLevel types texts fs f a v in_loop s Given
    members_back same =
        filled_back a types texts fs f setting v in_loop s h object built some keyword token (gives tt s) (no_gift types texts fs f) [] hands comes act here
        (result_by a (class (Some t)) (uses a (whole_form e)) t keyword token s) (by_struct ∙ ap placed same)

  pub struct_back : IsBuiltUnseen a v.visible types texts fs f setting number (λ (s : State). giving.given (uses a (whole_form e)) (ty.Struct number) token s) → DoesLevel types texts fs f a v in_loop s Given
  struct_back (at_once builds) =
      owner_given_back a types texts fs f setting v in_loop s h object built some keyword token w
      (subst (λ (q : Ty). BuildsIn a v.visible types texts fs f setting true q s w) (sym whole) (builds s h.stands)) (result_by a (class (Some t)) (uses a (whole_form e)) t keyword token s) by_struct
  struct_back (by_members form act same fills) = members_back form act fills (same s)
