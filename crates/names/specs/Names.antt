-- Tests of names.
use Rattle.std.specs.Prelude.{ℕ, Bool, true, false, ◌&&◌, ◌||◌, List, [], ◌∷◌, drop, codes, ◌==◌}
use Rattle.std.specs.Str.{bytes_eq}
use Rattle.tables.specs.Text.{within}

-- the hooks that React has of its own
unfoldable pub builtins : List (List ℕ)
builtins = codes "useState" ∷ codes "useReducer" ∷ codes "useEffect" ∷ codes "useLayoutEffect" ∷ codes "useMemo" ∷ codes "useCallback" ∷ codes "useRef" ∷ codes "useContext" ∷ codes "useImperativeHandle" ∷ codes "useDebugValue" ∷ []

-- whether a name is among others
abbrev pub among : List ℕ → List (List ℕ) → Bool
among n [] = false
among n (x ∷ xs) = bytes_eq n x || among n xs

-- a name begins with A to Z
abbrev pub upper : List ℕ → Bool
upper [] = false
upper (c ∷ cs) = within 65 90 c

-- one text begins with another
abbrev pub begins : List ℕ → List ℕ → Bool
begins [] ys = true
begins (x ∷ xs) [] = false
begins (x ∷ xs) (y ∷ ys) = x == y && begins xs ys

-- the name of a hook begins with `use` followed by A to Z
abbrev pub hook_name : List ℕ → Bool
hook_name n = begins (codes "use") n && upper (drop 3 n)
