-- The tokens of a text.
use Rattle.std.specs.Prelude.{◌≡◌, ℕ, Bool, true, false, cond, ◌||◌, List, [], ◌∷◌, length, take, drop, Some, None, Ok, Err, Option, Result}
use Rattle.std.specs.List.{prefix_len}
use Rattle.std.specs.Str.{bytes_eq}
use Rattle.tables.specs.Text.{class, every, in_name}
use Rattle.tables.specs.declared.text.Class.{Class}
use Rattle.tables.specs.declared.text.Class.TheVariants.{Open, Close, Blank, LineFeed, Letter, Digit, Other}
use Rattle.tables.specs.declared.fault.Fault.{Fault}
use Rattle.tables.specs.declared.fault.Fault.TheVariants.{Unlawful}
use Rattle.lex.specs.declared.token.Token.{Token}

abbrev pub in_run : Class → Bool
in_run Open = false
in_run Close = false
in_run Blank = false
in_run LineFeed = false
in_run Letter = true
in_run Digit = true
in_run Other = true

-- a byte that is neither a bracket, a blank nor a line feed
abbrev pub solid : ℕ → Bool
solid c = in_run (class c)

-- a run has lawful bytes if it is `-`, or all of them may be in a name
abbrev pub lawful : List ℕ → Bool
lawful bs = bytes_eq bs (45 ∷ []) || every in_name bs

-- a token; a foul one is a run with unlawful bytes
pub data Tok : Type 0 where
  opens : Tok
  closes : Tok
  blank : Tok
  feed : Tok
  run : List ℕ → Tok
  end : Tok
  foul : Tok

abbrev pub run_of : List ℕ → Tok
run_of bs = cond (lawful bs) (run bs) foul

abbrev pub by_class : Class → List ℕ → Tok
by_class Open bs = opens
by_class Close bs = closes
by_class Blank bs = blank
by_class LineFeed bs = feed
by_class Letter bs = run_of (take (prefix_len solid bs) bs)
by_class Digit bs = run_of (take (prefix_len solid bs) bs)
by_class Other bs = run_of (take (prefix_len solid bs) bs)

-- the first token of what is left of a text
unfoldable pub first : List ℕ → Tok
first [] = end
first (c ∷ cs) = by_class (class c) (c ∷ cs)

abbrev pub token_at : List ℕ → ℕ → Tok
token_at text at = first (drop at text)

-- how many bytes a token takes; the reader stays at a foul one
abbrev pub size : Tok → ℕ
size opens = 1
size closes = 1
size blank = 1
size feed = 1
size (run bs) = length bs
size end = 0
size foul = 0

-- the token that the code's value stands for
abbrev pub view : Token → Tok
view Token.Open = opens
view Token.Close = closes
view Token.Blank = blank
view Token.LineFeed = feed
view (Token.Run r) = run r.now
view Token.End = end

abbrev pub viewed : Option Token → Tok
viewed None = foul
viewed (Some t) = view t

-- what the next token is at an offset, or that it is foul there
abbrev pub Reads : List ℕ → ℕ → Result (ℕ × Token) Fault → Type 0
Reads text at (Ok r) = (r.0 ≡ at) × (view r.1 ≡ token_at text at)
Reads text at (Err f) = (f ≡ Unlawful at) × (token_at text at ≡ foul)
