use Rattle.std.proofs.Common.{rules}
use Rattle.firmware.proofs.Refusing.{refused_table}
use Rattle.firmware.proofs.delivery_page_by_table.Goals as goal

pub returns-in-Err : goal.returns-in-Err
returns-in-Err c = refused_table c.in-Err.refusal (rw c.printed-port.ensures at c.in-Err.ensures) (search rules) c.lend_refusal.ensures.text
