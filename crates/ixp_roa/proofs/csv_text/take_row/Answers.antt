use Rattle.std.proofs.Common.{◌≡◌, ◌+◌, ◌==◌, ◌&&◌, false, length, sym, ap, ◌∙◌, arith}
use Rattle.csv.specs.Records.{fields_of}
use Rattle.ixp_roa.specs.CsvRoas.{is_header}
use Rattle.ixp_roa.specs.declared.fault.Misfit.TheVariants as misfit
use Rattle.ixp_roa.proofs.CsvTexts.{misfit_at, one_roa}
use Rattle.ixp_roa.proofs.csv_text.take_row.Goals as goal

pub returns-in-Ok-push : goal.returns-in-Ok-push
returns-in-Ok-push c rows are =
    let row = fields_of c.args.row.now in
    let roas = c.args.roas.now.items in
    let plain : (c.args.before + length roas == 0 && is_header row) ≡ false = ap (λ n. c.args.before + n == 0 && is_header row) (sym (c.len.ensures ∙ c.args.roas.now.ok.0)) ∙ (sym c.is_header_behind.ensures ∙ c.if-is_header_behind.false) in
    rw c.in-Ok-push.ensures.items (one_roa rows row c.args.before roas c.in-Ok.roa are plain c.in-Ok.ensures)

pub returns-in-Err-Form : goal.returns-in-Err-Form
returns-in-Err-Form c rows are rest =
    let row = fields_of c.args.row.now in
    let roas = c.args.roas.now.items in
    let plain : (c.args.before + length roas == 0 && is_header row) ≡ false = ap (λ n. c.args.before + n == 0 && is_header row) (sym (c.len.ensures ∙ c.args.roas.now.ok.0)) ∙ (sym c.is_header_behind.ensures ∙ c.if-is_header_behind.false) in
    misfit_at rows row c.args.before roas misfit.Form _ are plain (rw c.in-Err-Form.field-0-is at c.in-Err-Form.ensures) (let len = c.len-in-Err-Form.ensures in let ok = c.args.roas.now.ok in omega arith) rest

pub returns-in-Err-MaxLength : goal.returns-in-Err-MaxLength
returns-in-Err-MaxLength c rows are rest =
    let row = fields_of c.args.row.now in
    let roas = c.args.roas.now.items in
    let plain : (c.args.before + length roas == 0 && is_header row) ≡ false = ap (λ n. c.args.before + n == 0 && is_header row) (sym (c.len.ensures ∙ c.args.roas.now.ok.0)) ∙ (sym c.is_header_behind.ensures ∙ c.if-is_header_behind.false) in
    misfit_at rows row c.args.before roas misfit.MaxLength _ are plain (rw c.in-Err-MaxLength.field-0-is at c.in-Err-MaxLength.ensures) (let len = c.len-in-Err-MaxLength.ensures in let ok = c.args.roas.now.ok in omega arith) rest
