-- What is there at some point of an expression is there behind what writes a register, writes nothing, or lies on either of two ways.
use Rattle.std.proofs.Common.{◌≡◌, ◌<◌, ◌&&◌, ℕ, true, false, not, List, Contains, length, slice_get, slice_set, Option, Some, is_none, sym, ap, ◌∙◌, subst, arith}
use Rattle.std.proofs.lemmas.Bool.{false≢true}
use Rattle.std.proofs.lemmas.Option.{same_Some, slice_get_within}
use Rattle.life_types.specs.declared.ty.NameId.{NameId}
use Rattle.life_core.specs.Function.{Function}
use Rattle.life_core.specs.Kinds.{is_object}
use Rattle.life_core.specs.declared.program.Local.{Local}
use Rattle.life_core.specs.declared.program.LocalKind.{LocalKind}
use Rattle.life_proper.specs.Knowing.{agreed_all, known_at}
use Rattle.life_proper.specs.declared.known.Known.{Known}
use Rattle.life_proper.specs.declared.known.Known.TheVariants as known
use Rattle.life_writer.specs.Writing.{State}
use Rattle.life_elab_laws.proofs.Among.{Among}
use Rattle.life_elab_laws.proofs.Emitting.{IsNameless}
use Rattle.life_elab_laws.proofs.Growing.{Grows}
use Rattle.life_elab_laws.proofs.Knowledge.{agreed_length, at_agreed, beside_set, ready_set, set_length}
use Rattle.life_elab_laws.proofs.Making.{Alive}
use Rattle.life_elab_laws.proofs.Shaped.{is_passing}

module _ (f : Function) where
  -- a register without a name is passing
  nameless_passing : (r : ℕ) (l : Local) → IsNameless f r → slice_get f.locals r ≡ Some l → is_passing l ≡ true
  nameless_passing r l is there =
      let same : is.local ≡ l = same_Some is.local l (sym is.there ∙ there) in
      ap (λ (u : Local). is_passing u) (sym same) ∙ ap (λ (o : Option NameId). is_none o && not (is_object is.local.kind)) is.nameless ∙ ap (λ (k : LocalKind). not (is_object k)) is.kind

  -- where nothing more lives
  pub alive_grown : (s s' : State) (k : List Known) → s'.pending ≡ s.pending → Grows s s' → Alive f s k → Alive f s' k
  alive_grown s s' k level g h = record {
    sized = h.sized;
    living = λ y c. h.living y (subst (λ (ys : List ℕ). Contains ys y) g.living c);
    pending = λ y m. h.pending y (subst (Among y) level m);
    blank = λ y l there lasts a b. h.blank y l there lasts (λ m. a (subst (Among y) (sym g.living) m)) (λ m. b (subst (Among y) (sym level) m));
  }

  -- behind what writes something passing
  pub alive_passing : (s : State) (k : List Known) (r : ℕ) (here : Local) → slice_get f.locals r ≡ Some here → is_passing here ≡ true → Alive f s k → Alive f s (slice_set k r known.Ready)
  alive_passing s k r here at passes h = record {
    sized = set_length k r known.Ready ∙ h.sized;
    living = λ y c. ready_set k r y lt (h.living y c);
    pending = λ y m. ready_set k r y lt (h.pending y m);
    blank = λ y l there lasts a b. beside_set k r y known.Ready (beside y l there lasts) ∙ h.blank y l there lasts a b;
  }
    where
      lt : r < length k
      lt = omega (arith, h.sized, slice_get_within f.locals r here at)

      beside : (y : ℕ) (l : Local) → slice_get f.locals y ≡ Some l → is_passing l ≡ false → r ≡ y → ⊥
      beside y l there lasts e = false≢true (sym lasts ∙ ap (λ (u : Local). is_passing u) (same_Some l here (sym there ∙ ap (slice_get f.locals) (sym e) ∙ at)) ∙ passes)

  -- .. a register
  pub alive_set : (s : State) (k : List Known) (r : ℕ) → IsNameless f r → Alive f s k → Alive f s (slice_set k r known.Ready)
  alive_set s k r is h = alive_passing s k r is.local is.there (nameless_passing r is.local is is.there) h

  -- .. or nothing
  pub alive_same : (s : State) (k j : List Known) → length j ≡ length k → ((y : ℕ) → known_at j y ≡ known_at k y) → Alive f s k → Alive f s j
  alive_same s k j sized same h = record {
    sized = sized ∙ h.sized;
    living = λ y c. same y ∙ h.living y c;
    pending = λ y m. same y ∙ h.pending y m;
    blank = λ y l there lasts a b. same y ∙ h.blank y l there lasts a b;
  }

  -- where two ways meet
  pub alive_agreed : (s : State) (k j : List Known) → Alive f s k → Alive f s j → Alive f s (agreed_all k j)
  alive_agreed s k j a b = record {
    sized = agreed_length k j sizes ∙ a.sized;
    living = λ y c. both y (a.living y c ∙ sym (b.living y c)) ∙ a.living y c;
    pending = λ y m. both y (a.pending y m ∙ sym (b.pending y m)) ∙ a.pending y m;
    blank = λ y l there lasts c d. both y (a.blank y l there lasts c d ∙ sym (b.blank y l there lasts c d)) ∙ a.blank y l there lasts c d;
  }
    where
      sizes : length k ≡ length j
      sizes = a.sized ∙ sym b.sized

      both : (y : ℕ) → known_at k y ≡ known_at j y → known_at (agreed_all k j) y ≡ known_at k y
      both y e = at_agreed k j y sizes e
