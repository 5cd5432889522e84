-- The options of a run.
use Rattle.std.specs.Prelude.{Bool, ◌&&◌}
use Rattle.tables.specs.Text.{name}
use Rattle.refresh.specs.declared.options.RefreshOptions.{RefreshOptions}

-- both names keep the name rule, and full signatures are on
abbrev pub lawful : RefreshOptions → Bool
lawful o = name o.refresh_reg.now && (name o.refresh_sig.now && o.emit_full_signatures)
