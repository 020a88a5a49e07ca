-- The diagnostics of one document more.
use Rattle.std.proofs.Common.{◌≡◌, ℕ, Bool, List, ◌∷◌, Option, true, false, refl}
use Rattle.isle_lsp_files.specs.Disks.{View}
use Rattle.isle_lsp_files.specs.Documents.{Document}
use Rattle.isle_lsp.specs.Serving.{AreReports, IsReport, is_other, others}
use Rattle.isle_lsp_text.specs.declared.positions.PositionEncoding.{PositionEncoding}

pub reports_more : (enc : PositionEncoding) (docs : List Document) (view : View) (all : Bool) (uri : Option (List ℕ)) (d : Document) (ds : List Document) (text : List ℕ) (more : List (List ℕ)) → is_other all uri view d ≡ true → IsReport enc docs view d.uri d.file text → AreReports enc docs view (others all uri view ds) more → AreReports enc docs view (others all uri view (d ∷ ds)) (text ∷ more)
reports_more enc docs view all uri d ds text more is report rest = rw is (text, more, refl, report, rest)

pub reports_same : (enc : PositionEncoding) (docs : List Document) (view : View) (all : Bool) (uri : Option (List ℕ)) (d : Document) (ds : List Document) (more : List (List ℕ)) → is_other all uri view d ≡ false → AreReports enc docs view (others all uri view ds) more → AreReports enc docs view (others all uri view (d ∷ ds)) more
reports_same enc docs view all uri d ds more is rest = rw is rest
