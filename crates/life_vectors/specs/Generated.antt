-- Programs that are made of a number.
use Rattle.std.specs.Prelude.{◌≡◌, ℕ, zero, suc, ◌+◌, ◌-◌, ◌*◌, ◌%◌, ◌<◌, ◌≤◌, ◌==◌, if◌then◌else◌, List, [], ◌++◌, codes, decimal}
use Rattle.std.specs.declared.alloc.Global.{Global}
use Rattle.std.specs.declared.result.Result.{Result}
use Rattle.std.specs.declared.result.Result.TheVariants.{Ok, Err}
use Rattle.std.specs.declared.vec.Vec.{Vec}
use Rattle.life_vectors.specs.declared.body.BodyKind.{BodyKind}
use Rattle.life_vectors.specs.declared.body.BodyKind.TheVariants.{Pointer, Vector, Owner, Text}
use Rattle.life_vectors.specs.declared.program.GenFault.{GenFault}
use Rattle.life_vectors.specs.declared.program.GenFault.TheVariants as fault

-- ---- the numbers

abbrev pub next_state : ℕ → ℕ
next_state x = (75 * x + 74) % 65537

-- state n: the first is the number, modulo 65537
abbrev pub state : ℕ → ℕ → ℕ
state number zero = number % 65537
state number (suc n) = next_state (state number n)

-- ---- bodies, by what a function is about, what it hands on, and a constant

-- the texts, with what is handed on and the constant between them
abbrev pub around : List ℕ → List ℕ → List ℕ → ℕ → List ℕ → List ℕ
around begin a middle k end = begin ++ a ++ middle ++ decimal k ++ end

abbrev pub pointer_body : List ℕ → ℕ → List ℕ
pointer_body a k = around (codes "int x = ") a (codes "; int* p = &x; *p += ") k (codes "; return x;")

abbrev pub vector_body : List ℕ → ℕ → List ℕ
vector_body a k = around (codes "std::vector<int> v; v.push_back(") a (codes "); v.push_back(") k (codes "); int t = 0; for (int x : v) { t += x; } return t;")

abbrev pub owner_body : List ℕ → ℕ → List ℕ
owner_body a k = around (codes "auto u = std::make_unique<int>(") a (codes "); *u += ") k (codes "; auto w = std::move(u); return *w;")

abbrev pub text_body : List ℕ → ℕ → List ℕ
text_body a k = around (codes "std::string s = \"ab\"; std::string_view t = s; int r = ") a (codes "; return r + t.size() + ") k (codes ";")

abbrev pub body : BodyKind → List ℕ → ℕ → List ℕ
body Pointer a k = pointer_body a k
body Vector a k = vector_body a k
body Owner a k = owner_body a k
body Text a k = text_body a k

abbrev pub kind_of : ℕ → BodyKind
kind_of n = if n == 0 then Pointer else (if n == 1 then Vector else (if n == 2 then Owner else Text))

-- what the function before makes of the parameter
abbrev pub call_of : ℕ → List ℕ
call_of before = codes "f" ++ decimal before ++ codes "(n)"

-- the first function hands on the parameter itself
abbrev pub argument : ℕ → List ℕ
argument i = if i == 0 then codes "n" else call_of (i - 1)

abbrev pub body_of : ℕ → ℕ → List ℕ
body_of i y = body (kind_of (y % 4)) (argument i) (y % 100)

-- ---- the program

abbrev pub function_line : ℕ → ℕ → List ℕ
function_line i y = codes "int f" ++ decimal i ++ codes "(int n) { " ++ body_of i y ++ codes " }\n"

-- the functions with numbers below n
abbrev pub lines : ℕ → ℕ → List ℕ
lines number zero = []
lines number (suc i) = lines number i ++ function_line i (state number (suc i))

abbrev pub main_calling : ℕ → List ℕ
main_calling last = codes "int main() { return f" ++ decimal last ++ codes "(1); }\n"

abbrev pub main_line : ℕ → List ℕ
main_line size = if size == 0 then codes "int main() { return 1; }\n" else main_calling (size - 1)

abbrev pub generated : ℕ → ℕ → List ℕ
generated number size = lines number size ++ main_line size

-- ---- what is answered

abbrev pub no_memory : GenFault
no_memory = fault.NoMemory

-- at most so many functions are made, beside `main`
abbrev pub most_functions : ℕ
most_functions = 200

-- the text, or that the size is too large, exactly where it is
abbrev pub Generates : ℕ → ℕ → Result (Vec ℕ Global) GenFault → Type 0
Generates number size (Ok text) = (size ≤ most_functions) × (text.items ≡ generated number size)
Generates number size (Err fault.SizeTooLarge) = most_functions < size
Generates number size (Err fault.NoMemory) = size ≤ most_functions
