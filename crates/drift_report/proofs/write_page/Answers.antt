-- `drift_report::write_page` meets its contract: what the run left, printed.
use Rattle.text.proofs.Laws.Written.{first, said}
use Rattle.drift_report.proofs.Laws.Pages.{image-is, page-is}
use Rattle.drift_report.proofs.write_page.Goals as goal

pub returns : goal.returns
returns c =
    let a = c.args in
    let r = c.run-ran in
    let s = a.stretch.now in
    let e = c.empty.ensures in
    let text = said (first _ c.put_module.ensures) (page-is s a.image.now a.number _ e r.result _ r.ensures.0 r.ensures.1) in
    (text.0, text.1, image-is s a.image.now a.number _ e _ r.ensures.1)
