-- The arguments of a call one after the other.
use Rattle.std.proofs.Common.{◌≡◌, ◌+◌, ◌<◌, ◌≤◌, ◌⊎◌, inl, inr, ℕ, zero, suc, List, [], ◌∷◌, ◌++◌, Some, None, length, drop, slice_get, get_or, refl, sym, ap, subst, ◌∙◌, append_assoc, append-nil, arith}
use Rattle.std.proofs.lemmas.Option.{slice_get_cases, slice_get_within, get_or_from_slice_get}
use Rattle.std.proofs.lemmas.List.{drop_all, drop_more}
use Rattle.life_types.specs.declared.place.Place.{Place}
use Rattle.life_types.specs.declared.ty.Ty.{Ty}
use Rattle.life_types.specs.declared.ty.TyId.{TyId}
use Rattle.life_typed.specs.Delimiters.{DelimitersForm, behind_first, behind_others, first_of, without_first}
use Rattle.life_typed.specs.declared.typed_expr.TypedExpr.{TypedExpr}
use Rattle.life_core.specs.Operands.{Argument}
use Rattle.life_writer.specs.Around.{Around, type_of}
use Rattle.life_writer.specs.Giving.{argument, arguments}
use Rattle.life_writer.specs.PartUses.{expression_uses, expressions_uses}
use Rattle.life_writer.specs.Writing.{State, Gives, gives, mapped}

-- ---- the tokens behind them

-- those behind what is left
abbrev pub behind_left : DelimitersForm → ℕ → DelimitersForm
behind_left d i = record { commas = drop i d.commas; closing = d.closing }

first_left : (commas : List Place) (closing : Place) (i : ℕ) → first_of (drop i commas) closing ≡ get_or commas i closing
first_left [] closing zero = refl
first_left [] closing (suc i) = refl
first_left (comma ∷ commas) closing zero = refl
first_left (comma ∷ commas) closing (suc i) = first_left commas closing i

-- the first two
pub first_token : (d : DelimitersForm) (behind : Place) → behind ≡ get_or d.commas 0 d.closing → behind_first d ≡ behind
first_token d behind is = first_left d.commas d.closing 0 ∙ sym is

second_left : (commas : List Place) (closing : Place) → first_of (without_first commas) closing ≡ get_or commas 1 closing
second_left [] closing = refl
second_left (comma ∷ commas) closing = first_left commas closing 0

pub second_token : (d : DelimitersForm) (behind : Place) → behind ≡ get_or d.commas 1 d.closing → behind_first (behind_others d) ≡ behind
second_token d behind is = second_left d.commas d.closing ∙ sym is

others_behind : (commas : List Place) (i : ℕ) → without_first (drop i commas) ≡ drop (suc i) commas
others_behind [] zero = refl
others_behind [] (suc i) = refl
others_behind (comma ∷ commas) zero = refl
others_behind (comma ∷ commas) (suc i) = others_behind commas i

others_left : (commas : List Place) (i : ℕ) → without_first (drop i commas) ≡ drop (i + 1) commas
others_left commas i = let next : suc i ≡ i + 1 = omega arith in others_behind commas i ∙ ap (λ (n : ℕ). drop n commas) next

-- what is left of them
pub left_token : (d : DelimitersForm) (i : ℕ) → behind_first (behind_left d i) ≡ get_or d.commas i d.closing
left_token d i = first_left d.commas d.closing i

pub left_others : (d : DelimitersForm) (i : ℕ) → behind_others (behind_left d i) ≡ behind_left d (i + 1)
left_others d i = ap (λ (commas : List Place). record { commas = commas; closing = d.closing }) (others_left d.commas i)

-- ---- arguments

-- those so far and those that are left are all
abbrev pub Handed : Around → DelimitersForm → List Argument → List TypedExpr → List TyId → State → Gives (List Argument) → Type 0
Handed a d so_far es types s total = mapped (λ rest. so_far ++ rest) (arguments a (expressions_uses a es) d types s) ≡ total

pub none_handed : (a : Around) (d : DelimitersForm) (so_far : List Argument) (es : List TypedExpr) (types : List TyId) (s : State) → so_far ≡ []
    → Handed a d so_far es types s (arguments a (expressions_uses a es) d types s)
none_handed a d so_far es types s none =
    ap (λ (xs : List Argument). mapped (λ rest. xs ++ rest) (arguments a (expressions_uses a es) d types s)) none

-- one more
handed_more : (a : Around) (d : DelimitersForm) (so_far : List Argument) (e : TypedExpr) (es : List TypedExpr) (t : TyId) (ts : List TyId) (s : State) (x : Argument) (after : State) (total : Gives (List Argument))
    → argument a (expression_uses a e) (type_of a t) (behind_first d) s ≡ gives x after → Handed a d so_far (e ∷ es) (t ∷ ts) s total → Handed a (behind_others d) (so_far ++ x ∷ []) es ts after total
handed_more a d so_far e es t ts s x after total given all =
    let rest = arguments a (expressions_uses a es) (behind_others d) ts after in
    let moved : mapped (λ rest. (so_far ++ x ∷ []) ++ rest) rest ≡ gives (so_far ++ (x ∷ rest.given)) rest.state = ap (λ (xs : List Argument). gives xs rest.state) (append_assoc so_far (x ∷ []) rest.given) in
    let step : mapped (λ rest. so_far ++ rest) (arguments a (expressions_uses a (e ∷ es)) d (t ∷ ts) s) ≡ gives (so_far ++ (x ∷ rest.given)) rest.state =
    ap (λ (w : Gives Argument). gives (so_far ++ (w.given ∷ (arguments a (expressions_uses a es) (behind_others d) ts w.state).given)) (arguments a (expressions_uses a es) (behind_others d) ts w.state).state) given in
    moved ∙ sym step ∙ all

pub turn : (a : Around) (d : DelimitersForm) (so_far : List Argument) (es : List TypedExpr) (types : List TyId) (i : ℕ) (e : TypedExpr) (behind : Place) (t : TyId) (wanted : Ty) (s : State) (x : Argument) (after : State) (total : Gives (List Argument))
    → i < length es → e ≡ get_or es i e → behind ≡ get_or d.commas i d.closing → Some t ≡ slice_get types i → wanted ≡ type_of a t → argument a (expression_uses a e) wanted behind s ≡ gives x after
    → Handed a (behind_left d i) so_far (drop i es) (drop i types) s total → Handed a (behind_left d (i + 1)) (so_far ++ x ∷ []) (drop (i + 1) es) (drop (i + 1) types) after total
turn a d so_far es types i e behind t wanted s x after total more is token typed as_declared given all =
    let first : drop i es ≡ e ∷ drop (i + 1) es = drop_more es i e more ∙ ap (λ x. x ∷ drop (i + 1) es) (sym is) in
    let there = sym typed in
    let second : drop i types ≡ t ∷ drop (i + 1) types = drop_more types i t (slice_get_within types i t there) ∙ ap (λ x. x ∷ drop (i + 1) types) (get_or_from_slice_get types i t t there) in
    let left = behind_left d i in
    let here : Handed a left so_far (e ∷ drop (i + 1) es) (t ∷ drop (i + 1) types) s total =
    subst (λ (xs : List TypedExpr). Handed a left so_far xs (t ∷ drop (i + 1) types) s total) first (subst (λ (ts : List TyId). Handed a left so_far (drop i es) ts s total) second all) in
    let as_type : argument a (expression_uses a e) (type_of a t) behind s ≡ gives x after = ap (λ (w : Ty). argument a (expression_uses a e) w behind s) (sym as_declared) ∙ given in
    let where_it_ends : behind_first left ≡ behind = first_left d.commas d.closing i ∙ sym token in
    let as_argument : argument a (expression_uses a e) (type_of a t) (behind_first left) s ≡ gives x after = ap (λ (p : Place). argument a (expression_uses a e) (type_of a t) p s) where_it_ends ∙ as_type in
    subst (λ (commas : List Place). Handed a (record { commas = commas; closing = d.closing }) (so_far ++ x ∷ []) (drop (i + 1) es) (drop (i + 1) types) after total) (others_left d.commas i)
    (handed_more a left so_far e (drop (i + 1) es) t (drop (i + 1) types) s x after total as_argument here)

-- no argument or no parameter is left
pub none_past : {X : Type 0} (xs : List X) (i : ℕ) → None ≡ slice_get xs i → length xs ≤ i
none_past {X = X} xs i e = go (slice_get_cases xs i).1
  where
    go : ((x : X) × (i < length xs) × (slice_get xs i ≡ Some x) × (get_or xs i x ≡ x)) ⊎ ((length xs ≤ i) × (slice_get xs i ≡ None)) → length xs ≤ i
    go (inl h) = absurd (let both : None ≡ Some h.0 = e ∙ h.2 in cc)
    go (inr h) = h.0

no_types : (a : Around) (d : DelimitersForm) (es : List TypedExpr) (s : State) → arguments a (expressions_uses a es) d [] s ≡ gives [] s
no_types a d [] s = refl
no_types a d (e ∷ es) s = refl

closed : (so_far : List Argument) (s : State) (total : Gives (List Argument)) → gives (so_far ++ []) s ≡ total → total ≡ gives so_far s
closed so_far s total e = sym e ∙ ap (λ (xs : List Argument). gives xs s) (append-nil so_far)

pub no_parameter : (a : Around) (d : DelimitersForm) (so_far : List Argument) (es : List TypedExpr) (types : List TyId) (i : ℕ) (s : State) (total : Gives (List Argument))
    → None ≡ slice_get types i → Handed a d so_far (drop i es) (drop i types) s total → total ≡ gives so_far s
no_parameter a d so_far es types i s total none all =
    let left : drop i types ≡ [] = drop_all i types (none_past types i none) in
    closed so_far s total
    (sym (ap (mapped (λ rest. so_far ++ rest)) (no_types a d (drop i es) s)) ∙ subst (λ (ts : List TyId). Handed a d so_far (drop i es) ts s total) left all)

pub all_handed : (a : Around) (d : DelimitersForm) (so_far : List Argument) (es : List TypedExpr) (types : List TyId) (i : ℕ) (s : State) (total : Gives (List Argument))
    → length es ≤ i → Handed a d so_far (drop i es) (drop i types) s total → total ≡ gives so_far s
all_handed a d so_far es types i s total past all =
    closed so_far s total (subst (λ (es : List TypedExpr). Handed a d so_far es (drop i types) s total) (drop_all i es past) all)
