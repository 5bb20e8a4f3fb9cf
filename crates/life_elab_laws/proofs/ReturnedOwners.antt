-- An owner or a unique_ptr is given back, or a struct that is copied or that a call gives: what builds it makes no temporaries.
use Rattle.std.proofs.Common.{◌≡◌, ◌<◌, ℕ, Bool, false, List, length, Contains, refl, sym, ap, ◌∙◌, subst, arith}
use Rattle.life_types.specs.TypeTests.{is_void}
use Rattle.life_types.specs.Types.{Types}
use Rattle.life_types.specs.declared.place.Place.{Place}
use Rattle.life_typed.specs.BaseTypes.{type_at}
use Rattle.life_core.specs.Function.{Function}
use Rattle.life_core.specs.Tree.{Returns}
use Rattle.life_well_typed.specs.Visible.{Visible}
use Rattle.life_writer.specs.Around.{Around, result_local}
use Rattle.life_writer.specs.Uses.{Remaining}
use Rattle.life_writer.specs.Variables.{end_pending}
use Rattle.life_writer.specs.Writing.{Gives, State, gives}
use Rattle.life_elab.specs.StatementForms.{result}
use Rattle.life_elab.specs.Statements.{left}
use Rattle.life_elab_laws.proofs.Among.{ascend_low}
use Rattle.life_elab_laws.proofs.Doing.{DoesLevel}
use Rattle.life_elab_laws.proofs.FilledResults.{begun, below, filled_back, no_variable, not_there}
use Rattle.life_elab_laws.proofs.Following.{Follows, IsResultObject}
use Rattle.life_elab_laws.proofs.Gifts.{Gift}
use Rattle.life_elab_laws.proofs.MadeForms.{Builds, Found, gift_of}
use Rattle.life_elab_laws.proofs.PlainFills.{plain_fills}
use Rattle.life_elab_laws.proofs.AdmittedTypes.{IsBuilt}
use Rattle.life_elab_laws.proofs.Setting.{Setting}
use Rattle.life_elab_laws.proofs.VariablePlaces.{stands_later}

module _ (a : Around) (types : Types) (texts : ℕ) (fs : List Function) (f : Function) (setting : Setting a types fs f) (v : Visible) (in_loop : Bool) (s : State) (h : Follows types f a v s) (object : IsResultObject a s)
    (owner : IsBuilt a.program.types (type_at a.program.types a.function.result)) (some : is_void (type_at a.program.types a.function.result) ≡ false) (keyword token : Place)
    (w : Gives Remaining) (is : Builds a v.visible types texts fs f setting (type_at a.program.types a.function.result) s w) where
  abbrev x : ℕ
  x = result_local a

  abbrev Q : Gift types texts fs f (Found is.making)
  Q = gift_of a v.visible types texts fs f setting is.making

  abbrev found : Gives (Found is.making)
  found = gives is.found w.state

  abbrev start : State
  start = begun a types texts fs f setting v in_loop s h object owner some keyword token found Q is.over is.hands is.comes is.act

  low : x < length s.locals
  low = below a types texts fs f setting v in_loop s h object owner some keyword token found Q is.over is.hands is.comes is.act

  -- by whatever builds it
  pub owner_given_back : (y : State) → y ≡ (w.given (result a keyword) w.state).state → DoesLevel types texts fs f a v in_loop s (left 0 keyword (Returns keyword) (end_pending (length s.pending) token y))
  owner_given_back y same =
      filled_back a types texts fs f setting v in_loop s h object owner some keyword token found Q is.over is.hands is.comes is.act
      (plain_fills a v.visible types texts fs f setting (type_at a.program.types a.function.result) s w is keyword x start (stands_later a v.visible s w.state is.hands.grown h.stands) (λ n c. refl)
      (not_there a types texts fs f setting v in_loop s h object owner some keyword token found Q is.over is.hands is.comes is.act)
      (record { number = x; is = refl; below = omega (arith, low, is.hands.grown.count); apart = λ y c e. no_variable a types texts fs f setting v in_loop s h object owner some keyword token found Q is.over is.hands is.comes is.act (subst (Contains s.living) (sym e) c) })
      (λ m. let far = ascend_low (length s.locals) is.over x is.hands.ascend m in omega (arith, far, low)) (omega (arith, low, is.hands.grown.count)))
      y (same ∙ ap (λ (g : Gives ℕ). g.state) (is.lives (result a keyword) w.state))
