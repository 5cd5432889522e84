-- What a run leaves in the module's tables.
use Rattle.std.specs.Prelude.{◌≡◌, ℕ, ◌≤◌, Bool, true, false, not, List, length, take, IfOk, Some, None, Err, Option, Result, MatchResult}
use Rattle.tables.specs.declared.fault.Fault.{Fault}
use Rattle.tables.specs.declared.fault.Fault.TheVariants.{BadOption}
use Rattle.tables.specs.declared.node.Node.{Node}
use Rattle.refresh.specs.declared.options.RefreshOptions.{RefreshOptions}
use Rattle.tables.specs.declared.sizes.Sizes.{Sizes}
use Rattle.refresh.specs.Options.{lawful}

-- the bytes of text in use stay; the result lies within the tables, and a refusal leaves the nodes as they were
pub record Leaves (nodes : List Node) (text : List ℕ) (used : ℕ) (r : Result Sizes Fault) (nodes' : List Node) (text' : List ℕ) : Type 0 where
  pub stays : take used text' ≡ take used text
  pub long : length text' ≡ length text
  pub within : MatchResult r (λ s. (s.nodes ≤ length nodes) × (s.text ≤ length text)) (λ _. nodes' ≡ nodes)

-- options are given that are not lawful
abbrev pub bad_options : Option RefreshOptions → Bool
bad_options None = false
bad_options (Some o) = not (lawful o)

-- `dev` is on and options are given
abbrev pub enabled : Bool → Option RefreshOptions → Bool
enabled dev None = false
enabled dev (Some o) = dev

-- the tables as they were
pub record Unchanged (nodes : List Node) (text : List ℕ) (nodes' : List Node) (text' : List ℕ) : Type 0 where
  pub same_nodes : nodes' ≡ nodes
  pub same_text : text' ≡ text

-- options that are not lawful are refused as such; a run that is not enabled leaves the module
pub record Settled (dev : Bool) (o : Option RefreshOptions) (s : Sizes) (r : Result Sizes Fault) (unchanged : Type 0) : Type 0 where
  pub bad : bad_options o ≡ true → (r ≡ Err BadOption) × unchanged
  pub off : bad_options o ≡ false → enabled dev o ≡ false → IfOk r (λ q. q ≡ s) × unchanged
