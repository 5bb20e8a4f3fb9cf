-- Declarations that say the same have as many parameters.
use Rattle.std.proofs.Common.{◌≡◌, ◌⊎◌, inl, inr, ⊎_elim, ℕ, zero, suc, Bool, true, false, Option, None, Some, List, [], ◌∷◌, ◌++◌, length, refl, sym, ap, subst, ◌∙◌, append_assoc, rules}
use Rattle.std.proofs.lemmas.Bool.{and_from, and_parts}
use Rattle.life_types.specs.declared.ty.NameId.{NameId}
use Rattle.life_tree.specs.declared.attribute.Attribute.{Attribute}
use Rattle.life_tree.specs.declared.attribute.AttributeArguments.{AttributeArguments}
use Rattle.life_tree.specs.declared.attribute.AttributeWord.{AttributeWord}
use Rattle.life_tree.specs.declared.attribute.AttributeWord.TheVariants as word
use Rattle.life_tree.specs.declared.function.Function.{Function}
use Rattle.life_tree.specs.declared.function.Parameter.{Parameter}
use Rattle.life_tree.specs.declared.identifier.Identifier.{Identifier}
use Rattle.life_tree.specs.declared.type_name.Base.{roll-Base}
use Rattle.life_tree.specs.declared.type_name.Base.TheOpen as type_open
use Rattle.life_tree.specs.declared.type_name.TypeName.{roll-TypeName}
use Rattle.life_names.specs.Environment.{Scope, nothing_seen}
use Rattle.life_typing.specs.Attributes.{life_name}
use Rattle.life_typing.specs.Names.{DeclaredView, pieces_agree}
use Rattle.life_typing.specs.Pieces.{arguments_pieces, attributes_pieces, named_pieces, parameters_pieces, pieces, word_pieces, words_pieces}
use Rattle.life_typing_laws.proofs.Domains.{Piece}

-- ---- pieces that agree are the same

abbrev agree : List Piece → List Piece → Bool
agree xs ys = pieces_agree ys false (record { pieces = xs; has_body = false })

same_piece : (x y : Piece) → agree (x ∷ []) (y ∷ []) ≡ true → x ≡ y
same_piece x y e = search rules

agree_parts : (x y : Piece) (xs ys : List Piece) → agree (x ∷ xs) (y ∷ ys) ≡ true → (agree (x ∷ []) (y ∷ []) ≡ true) × (agree xs ys ≡ true)
agree_parts x y xs ys e =
    let both = and_parts _ _ e in
    let parts = and_parts _ _ both.0 in
    (and_from _ _ (and_from _ _ parts.0 refl) refl, and_from _ _ parts.1 refl)

agree_same : (xs ys : List Piece) → agree xs ys ≡ true → xs ≡ ys
agree_same [] [] e = refl
agree_same [] (y ∷ ys) e = absurd (cc)
agree_same (x ∷ xs) [] e = absurd (cc)
agree_same (x ∷ xs) (y ∷ ys) e =
    let parts = agree_parts x y xs ys e in
    ap (λ (z : Piece). z ∷ xs) (same_piece x y parts.0) ∙ ap (λ (zs : List Piece). y ∷ zs) (agree_same xs ys parts.1)

-- ---- how many of them are parameters

-- what a list begins with
abbrev front : {A : Type 0} {x : A} {xs : List A} → (ys : List A) → ys ≡ x ∷ xs → A
front {x = x} ys e = x

-- a parameter without attributes that matter, with this name
abbrev parameter_named : Function → NameId → Parameter
parameter_named f n = record {
  attributes = f.attributes;
  ty = roll-TypeName (record { constant = None; base = roll-Base (type_open.Bool f.name.place); suffix = None });
  name = record { id = n; place = f.name.place };
}

-- its piece
abbrev pub parameter_piece : Function → NameId → Piece
parameter_piece f n = front (parameters_pieces (nothing_seen []) (parameter_named f n ∷ [])) refl

-- a list has so many parameters' pieces
abbrev pub CountIs : (NameId → Piece) → List Piece → ℕ → Type 0
CountIs P [] k = k ≡ 0
CountIs P (x ∷ xs) zero = ((n : NameId) → P n ≡ x → ⊥) × CountIs P xs zero
CountIs P (x ∷ xs) (suc k) = ((n : NameId) × (P n ≡ x) × CountIs P xs k) ⊎ (((n : NameId) → P n ≡ x → ⊥) × CountIs P xs (suc k))

-- .. and not so many others
count_one : (P : NameId → Piece) (xs : List Piece) (k l : ℕ) → CountIs P xs k → CountIs P xs l → k ≡ l
count_one P [] k l a c = a ∙ sym c
count_one P (x ∷ xs) zero zero a c = refl
count_one P (x ∷ xs) zero (suc l) a c = ⊎_elim (λ here. absurd (a.0 here.0 here.1)) (λ past. count_one P xs zero (suc l) a.1 past.1) c
count_one P (x ∷ xs) (suc k) zero a c = ⊎_elim (λ here. absurd (c.0 here.0 here.1)) (λ past. count_one P xs (suc k) zero past.1 c.1) a
count_one P (x ∷ xs) (suc k) (suc l) a c =
    ⊎_elim
    (λ here. ⊎_elim (λ there. ap suc (count_one P xs k l here.2 there.2)) (λ past. absurd (past.0 here.0 here.1)) c)
    (λ past. ⊎_elim (λ there. absurd (past.0 there.0 there.1)) (λ later. count_one P xs (suc k) (suc l) past.1 later.1) c) a

-- another piece doesn't count
past_it : (P : NameId → Piece) (x : Piece) (xs : List Piece) (k : ℕ) → ((n : NameId) → P n ≡ x → ⊥) → CountIs P xs k → CountIs P (x ∷ xs) k
past_it P x xs zero never c = (never, c)
past_it P x xs (suc k) never c = inr (never, c)

module _ (f : Function) where
  words_count : (ws : List AttributeWord) (xs : List Piece) (k : ℕ) → CountIs (parameter_piece f) xs k → CountIs (parameter_piece f) (words_pieces ws ++ xs) k
  words_count [] xs k c = c
  words_count (word.Name name ∷ ws) xs k c =
      past_it (parameter_piece f) (front (word_pieces (word.Name name)) refl) (words_pieces ws ++ xs) k (λ n e. cc) (words_count ws xs k c)
  words_count (word.Static place ∷ ws) xs k c =
      past_it (parameter_piece f) (front (word_pieces (word.Static place)) refl) (words_pieces ws ++ xs) k (λ n e. cc) (words_count ws xs k c)

  arguments_count : (o : Option AttributeArguments) (ys xs : List Piece) (k : ℕ) → CountIs (parameter_piece f) (ys ++ xs) k → CountIs (parameter_piece f) ((arguments_pieces o ++ ys) ++ xs) k
  arguments_count None ys xs k c = c
  arguments_count (Some a) ys xs k c =
      past_it (parameter_piece f) (front (arguments_pieces (Some a)) refl) ((words_pieces a.words.items ++ ys) ++ xs) k (λ n e. cc)
      (subst (λ (zs : List Piece). CountIs (parameter_piece f) zs k) (sym (append_assoc (words_pieces a.words.items) ys xs)) (words_count a.words.items (ys ++ xs) k c))

  named_count : (o : Option Identifier) (a : Attribute) (ys xs : List Piece) (k : ℕ) → CountIs (parameter_piece f) (ys ++ xs) k → CountIs (parameter_piece f) ((named_pieces o a ++ ys) ++ xs) k
  named_count None a ys xs k c = c
  named_count (Some name) a ys xs k c =
      past_it (parameter_piece f) (front (named_pieces (Some name) a) refl) ((arguments_pieces a.arguments ++ ys) ++ xs) k (λ n e. cc) (arguments_count a.arguments ys xs k c)

  attributes_count : (scope : Scope) (others : List Attribute) (xs : List Piece) (k : ℕ) → CountIs (parameter_piece f) xs k → CountIs (parameter_piece f) (attributes_pieces scope others ++ xs) k
  attributes_count scope [] xs k c = c
  attributes_count scope (a ∷ others) xs k c = named_count (life_name scope a) a (attributes_pieces scope others) xs k (attributes_count scope others xs k c)

  parameters_count : (scope : Scope) (ps : List Parameter) → CountIs (parameter_piece f) (parameters_pieces scope ps) (length ps)
  parameters_count scope [] = refl
  parameters_count scope (p ∷ ps) = inl (p.name.id, refl, attributes_count scope p.attributes.items (parameters_pieces scope ps) (length ps) (parameters_count scope ps))

  -- what a declaration says has a piece for each of its parameters
  pub pieces_count : (scope : Scope) (g : Function) → CountIs (parameter_piece f) (pieces scope g) (length g.parameters.items)
  pieces_count scope g = attributes_count scope g.attributes.items (parameters_pieces scope g.parameters.items) (length g.parameters.items) (parameters_count scope g.parameters.items)

  -- so two that agree have as many
  pub same_count : (bodied : Bool) (earlier : DeclaredView) (ys : List Piece) (k l : ℕ) → pieces_agree ys bodied earlier ≡ true
      → CountIs (parameter_piece f) earlier.pieces k → CountIs (parameter_piece f) ys l → k ≡ l
  same_count bodied earlier ys k l e first second =
      let same = agree_same earlier.pieces ys (and_from _ _ (and_parts _ _ e).0 refl) in
      count_one (parameter_piece f) ys k l (subst (λ (zs : List Piece). CountIs (parameter_piece f) zs k) same first) second
