-- A loop over a range that is written part by part.
use Rattle.std.proofs.Common.{◌≡◌, ℕ, Bool, false, List, [], None, Option, length, refl, sym, ap, ◌∙◌}
use Rattle.std.specs.Prelude.{pos}
use Rattle.life_types.specs.declared.place.Place.{Place}
use Rattle.life_types.specs.declared.ty.Ty.{Ty}
use Rattle.life_types.specs.declared.ty.Ty.TheVariants as ty
use Rattle.life_types.specs.declared.ty.TyId.{TyId}
use Rattle.life_typed.specs.declared.typed_expr.Category.{Category}
use Rattle.life_typed.specs.declared.typed_expr.Category.TheVariants as category
use Rattle.life_typed.specs.declared.typed_program.TypedLocal.{TypedLocal}
use Rattle.life_core.specs.Operands.{Base, Location, Operand, Owner, Place as Aimed, Pointer, behind, object_named, whole}
use Rattle.life_core.specs.Step.{Advance, Same}
use Rattle.life_core.specs.Tree.{Tree, Turns, trees}
use Rattle.life_core.specs.declared.instr.Direction.TheVariants.{Forward}
use Rattle.life_core.specs.declared.operand.RangeEnd.TheVariants.{Begin, End}
use Rattle.life_writer.proofs.Begun.{place_wanted}
use Rattle.life_writer.specs.Around.{Around}
use Rattle.life_writer.specs.Building.{Fill, built}
use Rattle.life_writer.specs.Pointers.{As, aimed, pointed}
use Rattle.life_writer.specs.Registers.{computed, constant, new_register}
use Rattle.life_writer.specs.Temporaries.{hidden, scoped}
use Rattle.life_writer.specs.Uses.{Uses, own}
use Rattle.life_writer.specs.Using.{object_in, operand, pointer}
use Rattle.life_writer.specs.Variables.{end_pending, end_since, with_outside}
use Rattle.life_writer.specs.Writing.{State, Gives, gives, ◌>>◌, apart, emit, mapped, with_code, write}
use Rattle.life_elab.specs.RangeForms.{Iterators, cursor_at, declared_from, element_at, element_of, goes_on, hidden_by, hidden_owner, hidden_pointer, hidden_range, iterator_type, next, opened, owner_range, range_type, ranged, turn}
use Rattle.life_elab.specs.Statements.{body_of_loop, looped}
use Rattle.life_elab.proofs.LoopWriting.{looped_gives}

-- ---- the range

module _ (e : Uses) (c : Category) (same : e.category ≡ c) where
  pub owner_made : (place : Place) (t : Ty) (s now : State) (x : ℕ) (o : Operand) → c ≡ category.Value → e.place ≡ place → t ≡ own e → object_in e (scoped place t) s ≡ gives x now → o ≡ object_named x
      → owner_range e.category e s ≡ gives o now
  owner_made place t s now x o is here own_is made named =
      ap (λ (k : Category). owner_range k e s) (same ∙ is)
      ∙ ap (λ (p : Place). mapped object_named (object_in e (scoped p (own e)) s)) here
      ∙ ap (λ (u : Ty). mapped object_named (object_in e (scoped place u) s)) (sym own_is)
      ∙ ap (mapped object_named) made
      ∙ ap (λ (y : Operand). gives y now) (sym named)

  pub owner_placed : (id : TyId) (constant : Bool) (s : State) → c ≡ category.Place id constant → owner_range e.category e s ≡ operand e s
  owner_placed id constant s is = ap (λ (k : Category). owner_range k e s) (same ∙ is) ∙ sym (place_wanted e s id constant (same ∙ is))

  pub owner_hidden : (colon : Place) (t u : Ty) (s s1 s2 now : State) (o from : Operand) (r : ℕ) → t ≡ own e → owner_range e.category e s ≡ gives o s1 → range_type c t s1 ≡ gives u s2
      → built (Fill colon (pointed (aimed (Aimed o)))) (hidden colon u) s2 ≡ gives r now → from ≡ behind r → hidden_owner colon e s ≡ gives (Owner from) now
  owner_hidden colon t u s s1 s2 now o from r own_is first second third named =
      let by : Category → Ty → Operand → State → Gives Base =
      λ k v o s. range_type k v s >> λ t s. mapped (λ r. Owner (behind r)) (built (Fill colon (pointed (aimed (Aimed o)))) (hidden colon t) s) in
      ap (λ (w : Gives Operand). by e.category (own e) w.given w.state) first
      ∙ ap (λ (k : Category). by k (own e) o s1) same
      ∙ ap (λ (v : Ty). by c v o s1) (sym own_is)
      ∙ ap (λ (w : Gives Ty). mapped (λ r. Owner (behind r)) (built (Fill colon (pointed (aimed (Aimed o)))) (hidden colon w.given) w.state)) second
      ∙ ap (mapped (λ r. Owner (behind r))) third
      ∙ ap (λ (y : Operand). gives (Owner y) now) (sym named)

pub pointer_hidden : (e : Uses) (colon : Place) (t : Ty) (s s1 now : State) (l from : Location) (r : ℕ) → t ≡ own e → pointer e t s ≡ gives l s1 → built (Fill colon (pointed (As l))) (hidden colon t) s1 ≡ gives r now
    → from ≡ whole r → hidden_pointer colon e s ≡ gives (Pointer from) now
pointer_hidden e colon t s s1 now l from r own_is first second named =
    ap (λ (u : Ty). pointer e u s >> λ l s. mapped (λ r. Pointer (whole r)) (built (Fill colon (pointed (As l))) (hidden colon u) s)) (sym own_is)
    ∙ ap (λ (w : Gives Location). mapped (λ r. Pointer (whole r)) (built (Fill colon (pointed (As w.given))) (hidden colon t) w.state)) first
    ∙ ap (mapped (λ r. Pointer (whole r))) second
    ∙ ap (λ (y : Location). gives (Pointer y) now) (sym named)

pub hidden_else : (t : Ty) (colon : Place) (e : Uses) (s : State) → (t ≡ ty.View → ⊥) → ((x : TyId) (y : Bool) → t ≡ ty.Span x y → ⊥) → hidden_by t colon e s ≡ hidden_owner colon e s
hidden_else ty.Void colon e s no_view no_span = refl
hidden_else ty.Bool colon e s no_view no_span = refl
hidden_else ty.Char colon e s no_view no_span = refl
hidden_else ty.Int colon e s no_view no_span = refl
hidden_else ty.Long colon e s no_view no_span = refl
hidden_else ty.Size colon e s no_view no_span = refl
hidden_else ty.Text colon e s no_view no_span = refl
hidden_else ty.View colon e s no_view no_span = absurd (no_view refl)
hidden_else (ty.Vector x) colon e s no_view no_span = refl
hidden_else (ty.Unique x) colon e s no_view no_span = refl
hidden_else (ty.Raw x y) colon e s no_view no_span = refl
hidden_else (ty.Reference x y) colon e s no_view no_span = refl
hidden_else (ty.Iterator x y) colon e s no_view no_span = refl
hidden_else (ty.Span x y) colon e s no_view no_span = absurd (no_span x y refl)
hidden_else (ty.Struct n) colon e s no_view no_span = refl

pub range_hidden : (e : Uses) (colon closing : Place) (s s1 now : State) (b : Base) (pending : ℕ) → pending ≡ length s.pending → hidden_by (own e) colon e s ≡ gives b s1 → now ≡ end_pending pending closing s1
    → hidden_range colon closing e s ≡ gives b now
range_hidden e colon closing s s1 now b pending count first last =
    ap (λ (w : Gives Base). gives w.given (end_pending (length s.pending) closing w.state)) first
    ∙ ap (λ (n : ℕ). gives b (end_pending n closing s1)) (sym count)
    ∙ ap (λ (z : State). gives b z) (sym last)

-- ---- the iterators

pub range_opened : (e : Uses) (colon closing : Place) (t : Ty) (s s1 s2 now : State) (b copy : Base) (x y : ℕ) → t ≡ iterator_type (element_of e) → hidden_range colon closing e s ≡ gives b s1 → copy ≡ b
    → cursor_at colon t copy Begin s1 ≡ gives x s2 → cursor_at colon t b End s2 ≡ gives y now → opened colon closing e s ≡ gives (record { first = x; last = y }) now
range_opened e colon closing t s s1 s2 now b copy x y type_is first same second third =
    let ends : ℕ → ℕ → Iterators = λ x y. record { first = x; last = y } in
    let by : Ty → Base → Base → State → Gives Iterators = λ t b0 b1 s. cursor_at colon t b0 Begin s >> λ x s. mapped (ends x) (cursor_at colon t b1 End s) in
    ap (λ (w : Gives Base). by (iterator_type (element_of e)) w.given w.given w.state) first
    ∙ ap (λ (u : Ty). by u b b s1) (sym type_is)
    ∙ ap (λ (from : Base). by t from b s1) (sym same)
    ∙ ap (λ (w : Gives ℕ). mapped (ends w.given) (cursor_at colon t b End w.state)) second
    ∙ ap (mapped (ends x)) third

-- ---- each turn

-- whether the iterators differ
pub ends_compared : (colon : Place) (it : Iterators) (s s1 now : State) (left right : Location) (r : ℕ) → new_register colon ty.Bool s ≡ gives r s1 → left ≡ whole it.first → right ≡ whole it.last
    → now ≡ emit colon (Same r left right false) s1 → computed None ty.Bool colon (λ r. Same r (whole it.first) (whole it.last) false) s ≡ gives r now
ends_compared colon it s s1 now left right r first one other last =
    ap (λ (w : Gives ℕ). w >> λ r s. gives r (emit colon (Same r (whole it.first) (whole it.last) false) s)) first
    ∙ ap (λ (p : Location). gives r (emit colon (Same r p (whole it.last) false) s1)) (sym one)
    ∙ ap (λ (p : Location). gives r (emit colon (Same r left p false) s1)) (sym other)
    ∙ ap (gives r) (sym last)

pub next_gives : (colon : Place) (it : Iterators) (s s1 now : State) (pointer from : Location) (r : ℕ) → computed None ty.Int colon (constant (pos 1)) s ≡ gives r s1 → pointer ≡ whole it.first → from ≡ whole it.first
    → now ≡ emit colon (Advance pointer from r Forward) s1 → now ≡ next colon it s
next_gives colon it s s1 now pointer from r first to read last =
    last
    ∙ ap (λ (p : Location). emit colon (Advance p from r Forward) s1) to
    ∙ ap (λ (p : Location). emit colon (Advance (whole it.first) p r Forward) s1) read
    ∙ sym (ap (λ (w : Gives ℕ). emit colon (Advance (whole it.first) (whole it.first) w.given Forward) w.state) first)

-- the variable and the body, in a list of its own, until the variable ends
pub turn_gives : (a : Around) (v : Option TypedLocal) (colon last : Place) (it : ℕ) (e : Uses) (body : State → State) (s s1 s2 s3 s4 s5 s6 now : State) (around outside : ℕ) (codes : List Tree) (turns : Tree)
    → around ≡ s.outside → s1 ≡ with_outside (length s.living) s → codes ≡ s1.code → s2 ≡ with_code [] s1 → outside ≡ length s2.living → s3 ≡ declared_from a v colon it e s2 → s4 ≡ body s3
    → s5 ≡ end_since last outside s4 → turns ≡ trees s5.code → s6 ≡ with_code codes s5 → now ≡ with_outside around s6 → apart (body_of_loop (turn a v colon last it e body)) s ≡ gives turns now
turn_gives a v colon last it e body s s1 s2 s3 s4 s5 s6 now around outside codes turns around_is begins codes_are apart_is count declares does ends turns_are behind leaves =
    let begun : s2 ≡ with_outside (length s.living) (with_code [] s) = apart_is ∙ ap (with_code []) begins in
    let ended : s5 ≡ turn a v colon last it e body (with_outside (length s.living) (with_code [] s)) =
    ends
    ∙ ap (λ (n : ℕ). end_since last n s4) (count ∙ ap (λ (z : State). length z.living) begun)
    ∙ ap (end_since last (length s.living)) (does ∙ ap body (declares ∙ ap (declared_from a v colon it e) begun)) in
    ap (λ (z : State). gives (trees z.code) (with_code s.code (with_outside s.outside z))) (sym ended)
    ∙ ap (λ (t : Tree). gives t (with_code s.code (with_outside s.outside s5))) (sym turns_are)
    ∙ ap (gives turns)
    (sym
    (leaves
    ∙ ap (λ (n : ℕ). with_outside n s6) around_is
    ∙ ap (with_outside s.outside) (behind ∙ ap (λ (codes : List Tree). with_code codes s5) (codes_are ∙ ap (λ (z : State). z.code) begins))))

-- ---- the whole

pub range_gives : (a : Around) (v : Option TypedLocal) (colon closing last place : Place) (e : Uses) (body : State → State) (s s1 : State) (it : Iterators) (t : Tree) (tested : State) (b : Tree) (repeated : State) (n : Tree)
    (stepped written after : State) (outside : ℕ)
    → outside ≡ length s.living → place ≡ last → opened colon closing e s ≡ gives it s1 → goes_on colon it s1 ≡ gives t tested
    → apart (body_of_loop (turn a v colon place it.first (element_at a.program.types colon it.first (element_of e)) body)) tested ≡ gives b repeated → apart (next colon it) repeated ≡ gives n stepped
    → written ≡ write (Turns t b n) stepped → after ≡ end_since place outside written → after ≡ ranged a v colon closing last e body s
range_gives a v colon closing last place e body s s1 it t tested b repeated n stepped written after outside count token opens first second third turns ends =
    let each : Iterators → State → State = λ it. turn a v colon place it.first (element_at a.program.types colon it.first (element_of e)) body in
    ends
    ∙ ap (λ (m : ℕ). end_since place m written) count
    ∙ ap (end_since place (length s.living)) (looped_gives (goes_on colon it) (each it) (next colon it) s1 t tested b repeated n stepped written first second third turns)
    ∙ sym (ap (λ (w : Gives Iterators). end_since place (length s.living) (looped (goes_on colon w.given) (each w.given) (next colon w.given) w.state)) opens)
    ∙ ap (λ (p : Place). ranged a v colon closing p e body s) token
