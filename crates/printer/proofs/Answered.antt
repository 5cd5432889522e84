-- What printing leaves where the text fits.
use Rattle.std.proofs.Common.{◌≡◌, ℕ, ◌≤◌, cond, List, ◌++◌, length, drop, sym, ap, ◌∙◌, arith, le-leb}
use Rattle.lex.specs.Written.{over}
use Rattle.lex.proofs.Overs.{over-fits}
use Rattle.printer.specs.Printing.{after}

pub fits_after : (p out : List ℕ) (n : ℕ) → n ≡ length p → n ≤ length out → (out' : List ℕ) → out' ≡ over out p → out' ≡ after p out
fits_after p out n long h out' e = e ∙ over-fits out p (omega arith) ∙ ap (λ b. cond b (p ++ drop (length p) out) out) (sym (le-leb (length p) (length out) (omega arith)))
