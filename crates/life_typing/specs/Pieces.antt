-- What a declaration of a function says beside its types: the names of its parameters, and the attributes of the namespace `life`, in their order.
use Rattle.std.specs.Prelude.{List, [], ◌∷◌, ◌++◌, Option, Some, None}
use Rattle.life_tree.specs.declared.attribute.Attribute.{Attribute}
use Rattle.life_tree.specs.declared.attribute.AttributeArguments.{AttributeArguments}
use Rattle.life_tree.specs.declared.attribute.AttributeWord.{AttributeWord}
use Rattle.life_tree.specs.declared.attribute.AttributeWord.TheVariants as word
use Rattle.life_tree.specs.declared.function.Function.{Function}
use Rattle.life_tree.specs.declared.function.Parameter.{Parameter}
use Rattle.life_tree.specs.declared.identifier.Identifier.{Identifier}
use Rattle.life_typing.specs.Attributes.{life_name}
use Rattle.life_names.specs.Environment.{Scope}
use Rattle.life_typing.specs.declared.pieces.Piece.{Piece}
use Rattle.life_typing.specs.declared.pieces.Piece.TheVariants as piece

abbrev pub word_pieces : AttributeWord → List Piece
word_pieces (word.Name name) = piece.Word name.id ∷ []
word_pieces (word.Static place) = piece.Static ∷ []

abbrev pub words_pieces : List AttributeWord → List Piece
words_pieces [] = []
words_pieces (w ∷ ws) = word_pieces w ++ words_pieces ws

abbrev pub arguments_pieces : Option AttributeArguments → List Piece
arguments_pieces None = []
arguments_pieces (Some a) = piece.Words ∷ words_pieces a.words.items

abbrev pub named_pieces : Option Identifier → Attribute → List Piece
named_pieces None a = []
named_pieces (Some name) a = piece.Attribute name.id ∷ arguments_pieces a.arguments

abbrev pub attributes_pieces : Scope → List Attribute → List Piece
attributes_pieces scope [] = []
attributes_pieces scope (a ∷ others) = named_pieces (life_name scope a) a ++ attributes_pieces scope others

abbrev pub parameters_pieces : Scope → List Parameter → List Piece
parameters_pieces scope [] = []
parameters_pieces scope (p ∷ ps) = piece.Parameter p.name.id ∷ (attributes_pieces scope p.attributes.items ++ parameters_pieces scope ps)

abbrev pub pieces : Scope → Function → List Piece
pieces scope f = attributes_pieces scope f.attributes.items ++ parameters_pieces scope f.parameters.items
