use Rattle.std.proofs.Common.{rules}
use Rattle.session.proofs.Paging.{page_paged, line_paged, page_counted}
use Rattle.session.proofs.page.Goals as goal

pub returns-in-Ok : goal.returns-in-Ok
returns-in-Ok c =
    let put = c.put_page.ensures in
    page_paged c.lend.ensures.table (rw c.lend.ensures.same at c.in-Ok.ensures) (page_counted _ _ c.put_page.result _ put.0 (λ n e. search rules) (λ x e. search rules), put.1)

pub returns-in-Err : goal.returns-in-Err
returns-in-Err c = line_paged c.lend.ensures.table (rw c.lend.ensures.same at c.in-Err.ensures) (c.lend_refusal.ensures.count, c.lend_refusal.ensures.text)
