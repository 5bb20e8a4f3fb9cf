-- The words that no name may be.
use Rattle.std.specs.Prelude.{ℕ, Bool, List, [], ◌∷◌, ◌++◌, codes}
use Rattle.std.specs.List.{list_any}
use Rattle.std.specs.Str.{bytes_eq}

-- the keywords of C++17
abbrev pub keywords : List (List ℕ)
keywords =
    codes "alignas" ∷ codes "alignof" ∷ codes "asm" ∷ codes "auto" ∷ codes "bool" ∷ codes "break" ∷ codes "case" ∷
    codes "catch" ∷ codes "char" ∷ codes "char16_t" ∷ codes "char32_t" ∷ codes "class" ∷ codes "const" ∷ codes "const_cast" ∷
    codes "constexpr" ∷ codes "continue" ∷ codes "decltype" ∷ codes "default" ∷ codes "delete" ∷ codes "do" ∷
    codes "double" ∷ codes "dynamic_cast" ∷ codes "else" ∷ codes "enum" ∷ codes "explicit" ∷ codes "export" ∷
    codes "extern" ∷ codes "false" ∷ codes "float" ∷ codes "for" ∷ codes "friend" ∷ codes "goto" ∷ codes "if" ∷
    codes "inline" ∷ codes "int" ∷ codes "long" ∷ codes "mutable" ∷ codes "namespace" ∷ codes "new" ∷ codes "noexcept" ∷
    codes "nullptr" ∷ codes "operator" ∷ codes "private" ∷ codes "protected" ∷ codes "public" ∷ codes "register" ∷
    codes "reinterpret_cast" ∷ codes "return" ∷ codes "short" ∷ codes "signed" ∷ codes "sizeof" ∷ codes "static" ∷
    codes "static_assert" ∷ codes "static_cast" ∷ codes "struct" ∷ codes "switch" ∷ codes "template" ∷ codes "this" ∷
    codes "thread_local" ∷ codes "throw" ∷ codes "true" ∷ codes "try" ∷ codes "typedef" ∷ codes "typeid" ∷ codes "typename" ∷
    codes "union" ∷ codes "unsigned" ∷ codes "using" ∷ codes "virtual" ∷ codes "void" ∷ codes "volatile" ∷ codes "wchar_t" ∷
    codes "while" ∷ []

-- the words that stand for operators in C++17; no rule of the subset uses them
abbrev pub alternative_tokens : List (List ℕ)
alternative_tokens =
    codes "and" ∷ codes "and_eq" ∷ codes "bitand" ∷ codes "bitor" ∷ codes "compl" ∷ codes "not" ∷ codes "not_eq" ∷
    codes "or" ∷ codes "or_eq" ∷ codes "xor" ∷ codes "xor_eq" ∷ []

-- whether a word is one of these
abbrev pub is_one_of : List ℕ → List (List ℕ) → Bool
is_one_of word words = list_any (λ w. bytes_eq w word) words

-- whether a word is a keyword or stands for an operator
unfoldable pub is_keyword : List ℕ → Bool
is_keyword word = is_one_of word (keywords ++ alternative_tokens)
