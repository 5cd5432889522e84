-- All tokens of a text, each with its place.
use Rattle.std.specs.Prelude.{ℕ, zero, suc, ◌+◌, List, [], ◌∷◌, ◌++◌, length, drop}
use Rattle.lex.specs.Tokens.{Tok, opens, closes, blank, feed, run, end, foul, first, size}

-- a text has no tokens after its end, nor after a foul one
abbrev pub then : Tok → List (ℕ × Tok) → List (ℕ × Tok)
then opens ts = ts
then closes ts = ts
then blank ts = ts
then feed ts = ts
then (run bs) ts = ts
then end ts = []
then foul ts = []

abbrev pub tokens_by : ℕ → (at : ℕ) → List ℕ → List (ℕ × Tok)
tokens_by zero at bs = []
tokens_by (suc n) at bs = (at, first bs) ∷ then (first bs) (tokens_by n (at + size (first bs)) (drop (size (first bs)) bs))

-- the tokens of what is left of a text that is read up to a place: each takes a byte at least, but for the last
unfoldable pub tokens : (at : ℕ) → List ℕ → List (ℕ × Tok)
tokens at bs = tokens_by (suc (length bs)) at bs

-- the tokens without their places
abbrev pub plainly : List (ℕ × Tok) → List Tok
plainly [] = []
plainly (t ∷ ts) = t.1 ∷ plainly ts

-- the bytes of a token
abbrev pub spelled : Tok → List ℕ
spelled opens = 40 ∷ []
spelled closes = 41 ∷ []
spelled blank = 32 ∷ []
spelled feed = 10 ∷ []
spelled (run bs) = bs
spelled end = []
spelled foul = []

abbrev pub spelling : List Tok → List ℕ
spelling [] = []
spelling (t ∷ ts) = spelled t ++ spelling ts
