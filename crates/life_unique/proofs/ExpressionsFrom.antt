-- Expressions from their trees.
use Rattle.std.proofs.Common.{List, [], ◌∷◌, None, Some}
use Rattle.std.specs.Prelude.{◌==◌, if◌then◌else◌}
use Rattle.std.specs.declared.alloc.Global.{Global}
use Rattle.life_types.specs.declared.place.Place.{Place}
use Rattle.life_tree.specs.Tree.{Tree, token, ◌⨾◌, construct, node, nowhere}
use Rattle.life_tree.specs.declared.fixed.TheConstants as fixed
use Rattle.life_tree.specs.declared.key.TokenKey.{TokenKey}
use Rattle.life_tree.specs.declared.key.TokenKey.TheVariants as keys
use Rattle.life_tree.specs.declared.primary.PostfixPart.{PostfixPart, roll-PostfixPart}
use Rattle.life_tree.specs.declared.primary.Primary.{Primary, roll-Primary}
use Rattle.life_tree.specs.declared.primary.Unary.{Unary, roll-Unary}
use Rattle.life_tree.specs.declared.arithmetic.Additive.{Additive, roll-Additive}
use Rattle.life_tree.specs.declared.arithmetic.AdditivePart.{AdditivePart, roll-AdditivePart}
use Rattle.life_tree.specs.declared.arithmetic.Multiplicative.{Multiplicative, roll-Multiplicative}
use Rattle.life_tree.specs.declared.arithmetic.MultiplicativePart.{MultiplicativePart, roll-MultiplicativePart}
use Rattle.life_tree.specs.declared.comparison.Equality.{Equality, roll-Equality}
use Rattle.life_tree.specs.declared.comparison.EqualityPart.{EqualityPart, roll-EqualityPart}
use Rattle.life_tree.specs.declared.comparison.Relational.{Relational, roll-Relational}
use Rattle.life_tree.specs.declared.comparison.RelationalPart.{RelationalPart, roll-RelationalPart}
use Rattle.life_tree.specs.declared.expr.AndPart.{AndPart, roll-AndPart}
use Rattle.life_tree.specs.declared.expr.Arguments.{Arguments, roll-Arguments}
use Rattle.life_tree.specs.declared.expr.Expr.{Expr, roll-Expr}
use Rattle.life_tree.specs.declared.expr.InitList.{InitList, roll-InitList}
use Rattle.life_tree.specs.declared.expr.LogicalAnd.{LogicalAnd, roll-LogicalAnd}
use Rattle.life_tree.specs.declared.expr.OrPart.{OrPart, roll-OrPart}
use Rattle.life_tree.specs.declared.primary.Postfix.{Postfix, roll-Postfix}
use Rattle.life_tree.specs.declared.primary.PostfixPart.TheOpen as open_expr
use Rattle.life_unique.specs.Standing.{boxed_at}
use Rattle.life_unique.proofs.Commas.{commas_of}
use Rattle.life_unique.proofs.Lists.{empty, listed}
use Rattle.life_unique.proofs.Operators.{additive_of, multiplicative_of, equality_of, relational_of, prefix_of}
use Rattle.life_unique.proofs.Tokens.{place_of, number_of, name_of, qualified, is_nothing, is_list}
use Rattle.life_unique.proofs.TypesFrom.{from_argument}

-- a literal that is one token
abbrev pub literal : TokenKey → Place → Primary
literal (keys.Number n) place = roll-Primary (open_expr.Number n place)
literal (keys.Char c) place = roll-Primary (open_expr.Char c place)
literal (keys.Text n) place = roll-Primary (open_expr.Text n place)
literal (keys.Fixed n) place =
    if n == fixed.TRUE then roll-Primary (open_expr.True place)
    else (if n == fixed.FALSE then roll-Primary (open_expr.False place) else roll-Primary (open_expr.Null place))
literal (keys.Name id) place = roll-Primary (open_expr.Null place)

module _ (g : Global) where
  -- what stands for a tree of another form
  abbrev pub no_primary : Primary
  no_primary = roll-Primary (open_expr.Null nowhere)

  abbrev pub no_postfix : Postfix
  no_postfix = roll-Postfix (record { primary = no_primary; parts = empty g })

  abbrev pub no_unary : Unary
  no_unary = roll-Unary (open_expr.Plain no_postfix)

  abbrev pub no_multiplicative : Multiplicative
  no_multiplicative = roll-Multiplicative (record { first = no_unary; more = empty g })

  abbrev pub no_additive : Additive
  no_additive = roll-Additive (record { first = no_multiplicative; more = empty g })

  abbrev pub no_relational : Relational
  no_relational = roll-Relational (record { first = no_additive; more = empty g })

  abbrev pub no_equality : Equality
  no_equality = roll-Equality (record { first = no_relational; more = empty g })

  abbrev pub no_logical_and : LogicalAnd
  no_logical_and = roll-LogicalAnd (record { first = no_equality; more = empty g })

  abbrev pub no_expr : Expr
  no_expr = roll-Expr (record { first = no_logical_and; more = empty g })

  abbrev pub no_arguments : Arguments
  no_arguments = roll-Arguments (record { opening = nowhere; list = empty g; commas = empty g; closing = nowhere })

  abbrev pub no_init_list : InitList
  no_init_list = roll-InitList (record { opening = nowhere; list = empty g; commas = empty g; closing = nowhere })

  abbrev mutual
    pub from_part : Tree → PostfixPart
    from_part (node _ (construct _ opening (index ⨾ closing))) = roll-PostfixPart (open_expr.Index opening (boxed_at g (from_expr index)) (place_of closing))
    from_part (node _ (mark ⨾ name ⨾ arguments)) =
        if number_of mark == fixed.DOT
        then roll-PostfixPart (open_expr.Member (place_of mark) (name_of name) (if is_nothing arguments then None else Some (from_arguments arguments)))
        else roll-PostfixPart (open_expr.Arrow (place_of mark) (name_of name) (if is_nothing arguments then None else Some (from_arguments arguments)))
    from_part t = roll-PostfixPart (open_expr.Member nowhere (name_of t) None)

    pub parts : Tree → List PostfixPart
    parts (t ⨾ ts) = from_part t ∷ parts ts
    parts _ = []

    pub from_primary : Tree → Primary
    from_primary (node _ (token key place)) = literal key place
    from_primary (node _ (construct _ opening (inner ⨾ closing))) =
        roll-Primary (open_expr.Paren opening (boxed_at g (from_expr inner)) (place_of closing))
    from_primary (node _ (token (keys.Name id) place ⨾ t)) =
        if is_nothing t then roll-Primary (open_expr.Name (record { id = id; place = place }))
        else (if is_list t then roll-Primary (open_expr.Construct (record { id = id; place = place }) (from_init_list t))
        else roll-Primary (open_expr.Call (record { id = id; place = place }) (from_arguments t)))
    from_primary (node _ (namespace ⨾ scope ⨾ word ⨾ construct _ opening (inner ⨾ closing))) =
        if number_of word == fixed.MOVE
        then roll-Primary (open_expr.Move (qualified namespace scope word) opening (name_of inner) (place_of closing))
        else roll-Primary (open_expr.TextOf (qualified namespace scope word) opening (boxed_at g (from_expr inner)) (place_of closing))
    from_primary (node _ (namespace ⨾ scope ⨾ word ⨾ construct _ opening closing)) =
        roll-Primary (open_expr.Input (qualified namespace scope word) opening (place_of closing))
    from_primary (node _ (namespace ⨾ scope ⨾ word ⨾ element ⨾ arguments)) =
        roll-Primary (open_expr.MakeUnique (qualified namespace scope word) (from_argument g element) (from_arguments arguments))
    from_primary _ = no_primary

    pub from_unary : Tree → Unary
    from_unary (node _ (construct n place operand)) = roll-Unary (open_expr.Prefix (prefix_of n) place (boxed_at g (from_unary operand)))
    from_unary (node _ operand) = roll-Unary (open_expr.Plain (from_postfix operand))
    from_unary _ = no_unary

    pub from_postfix : Tree → Postfix
    from_postfix (node _ (primary ⨾ more)) = roll-Postfix (record { primary = from_primary primary; parts = listed g (parts more) })
    from_postfix _ = no_postfix

    pub from_additive : Tree → Additive
    from_additive (node _ (first ⨾ more)) = roll-Additive (record { first = from_multiplicative first; more = listed g (additive_parts more) })
    from_additive _ = no_additive

    pub additive_parts : Tree → List AdditivePart
    additive_parts (t ⨾ ts) = from_additive_part t ∷ additive_parts ts
    additive_parts _ = []

    pub from_additive_part : Tree → AdditivePart
    from_additive_part (mark ⨾ operand) = roll-AdditivePart (record { operator = additive_of (number_of mark); place = place_of mark; operand = from_multiplicative operand })
    from_additive_part _ = roll-AdditivePart (record { operator = additive_of 0; place = nowhere; operand = no_multiplicative })

    pub from_multiplicative : Tree → Multiplicative
    from_multiplicative (node _ (first ⨾ more)) = roll-Multiplicative (record { first = from_unary first; more = listed g (multiplicative_parts more) })
    from_multiplicative _ = no_multiplicative

    pub multiplicative_parts : Tree → List MultiplicativePart
    multiplicative_parts (t ⨾ ts) = from_multiplicative_part t ∷ multiplicative_parts ts
    multiplicative_parts _ = []

    pub from_multiplicative_part : Tree → MultiplicativePart
    from_multiplicative_part (mark ⨾ operand) = roll-MultiplicativePart (record { operator = multiplicative_of (number_of mark); place = place_of mark; operand = from_unary operand })
    from_multiplicative_part _ = roll-MultiplicativePart (record { operator = multiplicative_of 0; place = nowhere; operand = no_unary })

    pub from_equality : Tree → Equality
    from_equality (node _ (first ⨾ more)) = roll-Equality (record { first = from_relational first; more = listed g (equality_parts more) })
    from_equality _ = no_equality

    pub equality_parts : Tree → List EqualityPart
    equality_parts (t ⨾ ts) = from_equality_part t ∷ equality_parts ts
    equality_parts _ = []

    pub from_equality_part : Tree → EqualityPart
    from_equality_part (mark ⨾ operand) = roll-EqualityPart (record { operator = equality_of (number_of mark); place = place_of mark; operand = from_relational operand })
    from_equality_part _ = roll-EqualityPart (record { operator = equality_of 0; place = nowhere; operand = no_relational })

    pub from_relational : Tree → Relational
    from_relational (node _ (first ⨾ more)) = roll-Relational (record { first = from_additive first; more = listed g (relational_parts more) })
    from_relational _ = no_relational

    pub relational_parts : Tree → List RelationalPart
    relational_parts (t ⨾ ts) = from_relational_part t ∷ relational_parts ts
    relational_parts _ = []

    pub from_relational_part : Tree → RelationalPart
    from_relational_part (mark ⨾ operand) = roll-RelationalPart (record { operator = relational_of (number_of mark); place = place_of mark; operand = from_additive operand })
    from_relational_part _ = roll-RelationalPart (record { operator = relational_of 0; place = nowhere; operand = no_additive })

    pub from_logical_and : Tree → LogicalAnd
    from_logical_and (node _ (first ⨾ more)) = roll-LogicalAnd (record { first = from_equality first; more = listed g (and_parts more) })
    from_logical_and _ = no_logical_and

    pub and_parts : Tree → List AndPart
    and_parts (t ⨾ ts) = from_and_part t ∷ and_parts ts
    and_parts _ = []

    pub from_and_part : Tree → AndPart
    from_and_part (mark ⨾ operand) = roll-AndPart (record { place = place_of mark; operand = from_equality operand })
    from_and_part _ = roll-AndPart (record { place = nowhere; operand = no_equality })

    pub from_expr : Tree → Expr
    from_expr (node _ (first ⨾ more)) = roll-Expr (record { first = from_logical_and first; more = listed g (or_parts more) })
    from_expr _ = no_expr

    pub or_parts : Tree → List OrPart
    or_parts (t ⨾ ts) = from_or_part t ∷ or_parts ts
    or_parts _ = []

    pub from_or_part : Tree → OrPart
    from_or_part (mark ⨾ operand) = roll-OrPart (record { place = place_of mark; operand = from_logical_and operand })
    from_or_part _ = roll-OrPart (record { place = nowhere; operand = no_logical_and })

    pub from_arguments : Tree → Arguments
    from_arguments (node _ (construct _ opening (list ⨾ closing))) = roll-Arguments (record { opening = opening; list = listed g (separated list); commas = listed g (commas_of list); closing = place_of closing })
    from_arguments _ = no_arguments

    pub from_init_list : Tree → InitList
    from_init_list (node _ (construct _ opening (list ⨾ closing))) = roll-InitList (record { opening = opening; list = listed g (separated list); commas = listed g (commas_of list); closing = place_of closing })
    from_init_list _ = no_init_list

    -- with commas between them
    pub separated : Tree → List Expr
    separated ((comma ⨾ t) ⨾ ts) = from_expr t ∷ separated ts
    separated (node rule t ⨾ ts) = from_expr (node rule t) ∷ separated ts
    separated (t ⨾ ts) = separated ts
    separated _ = []
