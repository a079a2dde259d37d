-- That what the program tells of a file, line by line, is its report, and of all inputs, one behind the other, their reports.
use mathlib.Core.Path.{◌≡◌, sym, subst}
use Rattle.std.specs.Prelude.{ℕ, ◌↔◌, List, Option}
use Rattle.print_report.proofs.ReportLaws.{report_is_lines}
use Rattle.program_io.specs.Outputs.{TextPut}
use Rattle.program_io.specs.Telling.{text_told, FilePut, InputPut, AllPut}
use Rattle.program_io.specs.declared.output.Output.{Output}
use Rattle.program_grade.specs.Handing.{grading_of_file, line_of_file, lines_of_file, report_of_file, ReportPut, InputsReported}

pub report_is_told : (file : List ℕ) (before after : Output) (old new : Option (List ℕ))
    → ReportPut file before after old new ↔ FilePut (text_told line_of_file lines_of_file) file before after old new
report_is_told file before after old new =
    let same = report_is_lines (grading_of_file file) in (
      λ put. subst (λ (text : List ℕ). TextPut before after old new text) same put,
      λ put. subst (λ (text : List ℕ). TextPut before after old new text) (sym same) put,
    )

pub all_reported : (before after : Output) (old new : Option (List ℕ))
    → AllPut (InputPut (FilePut (text_told line_of_file lines_of_file))) before after old new → InputsReported before after old new
all_reported before after old new put =
    let same : text_told line_of_file lines_of_file ≡ report_of_file = λ i file. sym (report_is_lines (grading_of_file file)) i in
    subst (λ (text : List ℕ → List ℕ). AllPut (InputPut (FilePut text)) before after old new) same put
