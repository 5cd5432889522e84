-- Trees shown to a visitor that keeps a log, and whose way the table alone tells: `way at above` is its answer at the node `at` right below
-- `above`, `comes at above` what it logs there, and `parts at` what it logs when it leaves the node.
use Rattle.std.specs.Prelude.{ℕ, suc, ◌+◌, max, List, [], ◌++◌, length, Some, Option}
use Rattle.walk.specs.declared.visit.Step.{Step}
use Rattle.walk.specs.declared.visit.Step.TheVariants.{Into, Past}
use Rattle.walk.specs.Trees.{Tree, node, Forest, nil, cons, flat}

-- what a visitor comes to only if it goes into a node
abbrev pub inside : {X : Type 0} → Step → List X → List X
inside Into xs = xs
inside Past xs = []

-- what it has logged of trees, the first of them at `at`
module _ {X : Type 0} (way : ℕ → Option ℕ → Step) (comes : ℕ → Option ℕ → List X) (parts : ℕ → List X) where
  abbrev mutual
    pub log : Tree → (at : ℕ) (above : Option ℕ) → List X
    log (node l c) at above = comes at above ++ inside (way at above) (logs c (at + 1) (Some at) ++ parts at)

    pub logs : Forest → (at : ℕ) (above : Option ℕ) → List X
    logs nil at above = []
    logs (cons t f) at above = log t at above ++ logs f (at + length (flat t)) above

abbrev pub counts : Step → ℕ → ℕ
counts Into n = n
counts Past n = 0

-- how many nodes of trees are open at once
module _ (way : ℕ → Option ℕ → Step) where
  abbrev mutual
    pub most : Tree → (at : ℕ) (above : Option ℕ) → ℕ
    most (node l c) at above = counts (way at above) (suc (mosts c (at + 1) (Some at)))

    pub mosts : Forest → (at : ℕ) (above : Option ℕ) → ℕ
    mosts nil at above = 0
    mosts (cons t f) at above = max (most t at above) (mosts f (at + length (flat t)) above)
