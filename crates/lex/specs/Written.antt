-- A text written over the front of a buffer, as far as it fits.
use Rattle.std.specs.Prelude.{ℕ, List, ◌++◌, length, take, drop}

unfoldable pub over : List ℕ → List ℕ → List ℕ
over out text = take (length out) (text ++ drop (length text) out)
