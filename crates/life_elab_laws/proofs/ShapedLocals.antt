-- What is written is shaped: it is passing, or a temporary or a variable of a type that is reached.
use Rattle.std.proofs.Common.{◌≡◌, inl, inr, true, ◌&&◌, not, Option, is_none, unwrap_or, refl, sym, ap, ◌∙◌}
use Rattle.std.proofs.lemmas.Bool.{false≢true, or_left}
use Rattle.life_types.specs.TypeTests.{is_value}
use Rattle.life_types.specs.Types.{Types}
use Rattle.life_types.specs.declared.ty.NameId.{NameId}
use Rattle.life_types.specs.declared.ty.Ty.{Ty}
use Rattle.life_types.specs.declared.ty.Ty.TheVariants as ty
use Rattle.life_elab_laws.proofs.ObjectTypes.{are_admitted_variables, is_pointing, is_admitted_variable, is_struct}
use Rattle.life_core.specs.Kinds.{is_object}
use Rattle.life_core.specs.declared.program.Local.{Local}
use Rattle.life_core.specs.declared.program.LocalKind.{LocalKind}
use Rattle.life_core.specs.declared.program.LocalKind.TheVariants.{Range, Register}
use Rattle.life_writer.specs.Around.{Around}
use Rattle.life_writer.specs.Writing.{State}
use Rattle.life_elab_laws.proofs.ExpressionKinds.{variable_built}
use Rattle.life_elab_laws.proofs.Fronts.{IsFront}
use Rattle.life_elab_laws.proofs.AdmittedTypes.{IsAdmittedType, admits, type_admits}
use Rattle.life_elab_laws.proofs.Shaped.{AreShaped, IsShaped, all_shaped, is_passing, owner_later, variable_later, unique_later, PlainStays}
use Rattle.life_elab_laws.proofs.WrittenLocals.{AreWrittenLocals, FitsNameless, FitsTemporary, IsIntermediate, IsOwn}

-- .. in each table that the one so far begins
module _ (a : Around) (s : State) (whole : Types) (front : IsFront a.program.types.types whole.types) (stays : PlainStays a.program.types whole) (later : IsFront s.types.types whole.types)
    (variables : are_admitted_variables a.program.types a.function.locals ≡ true) where
  nameless_shaped : (l : Local) → IsIntermediate a.program.types s.types l → IsShaped whole l
  nameless_shaped l is = go is.fits
    where
      -- what is no object passes
      passes : (k : LocalKind) → l.kind ≡ k → not (is_object k) ≡ true → is_passing l ≡ true
      passes k same no_object = ap (λ (k : LocalKind). is_none l.name && not (is_object k)) same ∙ ap (λ (o : Option NameId). is_none o && not (is_object k)) is.nameless ∙ no_object

      go : FitsNameless a.program.types s.types l.kind is.ty → IsShaped whole l
      go (inl register) lasts = absurd (false≢true (sym lasts ∙ passes Register register.0 refl))
      go (inr (inr hidden)) lasts = absurd (false≢true (sym lasts ∙ passes Range hidden.0 refl))
      go (inr (inl temporary)) lasts =
          ap (λ (o : Option Ty). admits whole (unwrap_or o ty.Void)) (later l.ty.0 is.ty is.typed)
          ∙ type_admits whole is.ty (reached temporary.1)
        where
          reached : FitsTemporary a.program.types is.ty → IsAdmittedType whole is.ty
          reached (inl value) = inl (or_left (is_value is.ty) (is_pointing whole is.ty) value)
          reached (inr (inl owner)) = inr (inl (owner_later a.program.types whole front stays is.ty owner))
          reached (inr (inr (inl unique))) = inr (inr (inr (inl (unique_later a.program.types whole front stays is.ty unique))))
          reached (inr (inr (inr structure))) = inr (inr (inr (inr (ap is_struct structure.is))))

  own_shaped : (l : Local) → IsOwn a l → IsShaped whole l
  own_shaped l is lasts =
      ap (is_admitted_variable whole) is.of.typed
      ∙ variable_later a.program.types whole front stays is.variable.ty (variable_built a.program.types a.function.locals is.number is.variable variables is.there)

  pub written_shaped : AreWrittenLocals a.program.types a s → AreShaped whole s.locals
  written_shaped own = all_shaped whole s.locals (λ y l at. elim (own y l at) [ inl is ↦ nameless_shaped l is | inr is ↦ own_shaped l is ])
