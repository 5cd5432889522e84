-- What the reader does to the innermost open form, told by the list of frames that the code holds.
use Rattle.std.proofs.Common.{◌≡◌, ℕ, ◌-◌, List, [], ◌∷◌, reverse, length, take, set, Some, None, Option, refl, ap, ◌∙◌, ap₂}
use Rattle.std.specs.List.{slice_get}
use Rattle.tables.specs.Modules.{node_at}
use Rattle.tables.specs.declared.kind.Word.{Word}
use Rattle.tables.specs.declared.node.Node.{Node}
use Rattle.reader.specs.declared.mode.Frame.{Frame}
use Rattle.reader.specs.declared.mode.Mode.{Mode}
use Rattle.reader.specs.Machine.{State, Step, go, sized, later, closed_by, called_in, with_word}
use Rattle.reader.proofs.Stacks.{Tops, popped}

abbrev named : List Node → Frame → List Node
named nodes f = set nodes f.at (with_word (node_at nodes f.at) Word.Named)

called_by : (nodes : List Node) (st : List Frame) (o : Option Frame) (ys : List Frame) (f : Frame) → Tops st o ys → o ≡ Some f → named nodes f ≡ called_in nodes st
called_by nodes [] o ys f t e = cc
called_by nodes (g ∷ st) o ys f t e = cc

uncalled_by : (nodes : List Node) (st : List Frame) (o : Option Frame) (ys : List Frame) → Tops st o ys → o ≡ None → nodes ≡ called_in nodes st
uncalled_by nodes [] o ys t e = refl
uncalled_by nodes (g ∷ st) o ys t e = cc

pub called_top : (nodes : List Node) (xs : List Frame) (f : Frame) → slice_get xs (length xs - 1) ≡ Some f → named nodes f ≡ called_in nodes (reverse xs)
called_top nodes xs f e = called_by nodes (reverse xs) _ _ f (popped xs) e

pub called_none : (nodes : List Node) (xs : List Frame) → slice_get xs (length xs - 1) ≡ None → nodes ≡ called_in nodes (reverse xs)
called_none nodes xs e = uncalled_by nodes (reverse xs) _ _ (popped xs) e

abbrev ending : State → Frame → List Frame → Step
ending s f st = go (record { mode = later f st; node = s.node; stack = st; nodes = sized s.nodes f.at s.count; text = s.text; count = s.count; bytes = s.bytes })

closed_by_lem : (s : State) (p : ℕ) (st : List Frame) (o : Option Frame) (ys : List Frame) (f : Frame) → Tops st o ys → o ≡ Some f → ending s f ys ≡ closed_by s p st
closed_by_lem s p [] o ys f t e = cc
closed_by_lem s p (g ∷ st) o ys f t e = cc

pub closed_top : (s : State) (p : ℕ) (xs ys : List Frame) (f : Frame) (m : Mode) (nodes : List Node) → slice_get xs (length xs - 1) ≡ Some f → ys ≡ take (length xs - 1) xs → m ≡ later f (reverse ys) → nodes ≡ sized s.nodes f.at s.count
    → go (record { mode = m; node = s.node; stack = reverse ys; nodes = nodes; text = s.text; count = s.count; bytes = s.bytes }) ≡ closed_by s p (reverse xs)
closed_top s p xs ys f m nodes e h mm nn =
    ap₂ (λ x y. go (record { mode = x; node = s.node; stack = reverse ys; nodes = y; text = s.text; count = s.count; bytes = s.bytes })) mm nn
    ∙ ap (λ zs. ending s f (reverse zs)) h ∙ closed_by_lem s p (reverse xs) _ _ f (popped xs) e
