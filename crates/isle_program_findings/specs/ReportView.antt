-- Reports of code as pure values.
use Rattle.std.specs.Prelude.{ℕ, List, Bool, string_bytes}
use Rattle.isle_program_findings.specs.declared.report.Report.{Report}

pub record ReportNode : Type 0 where
  pub text : List ℕ
  -- nothing is told that counts
  pub is_clean : Bool

abbrev pub report_of : Report → ReportNode
report_of r = record { text = string_bytes r.text; is_clean = r.is_clean }
