-- What settings ask of a run.
use Rattle.std.specs.Prelude.{Option, Some, None, if◌then◌else◌}
use Rattle.input.specs.declared.options.Settings.{Settings}
use Rattle.refresh.specs.declared.options.RefreshOptions.{RefreshOptions}

-- the names and the signatures' form, if options are given at all
abbrev pub asked : Settings → Option RefreshOptions
asked s = if s.given then Some (record { refresh_reg = s.reg; refresh_sig = s.sig; emit_full_signatures = s.full }) else None
