-- Document 01's worked session, with Hand over as document 02 ends it, computed: its ledger and its page printed. Assumes nothing.
use Rattle.std.specs.Prelude.{None}
use Prim.Native.Nat.{ℕ}
use mathlib.Core.Path.{◌≡◌, refl}
use mathlib.Core.Bool.{true, false}
use mathlib.Core.List.{[], ◌∷◌, ◌++◌, map}
use lib.IntN.{pos, negsuc}
use lib.ListN.{replicate}
use Rattle.heats.specs.Numerators.{heat_table}
use Rattle.book.specs.declared.receipts.ReceiptState.{ReceiptState}
use Rattle.book.specs.declared.accounts.Side.{Side}
use Rattle.book.specs.declared.matches.Stage.{Stage}
use Rattle.book.specs.declared.matches.Match.{Match}
use Rattle.book.specs.declared.tables.Book.{Book}
use Rattle.book.specs.Outcomes.{Answer}
use Rattle.book.specs.Rows.{no_lots, blank_account, blank_receipt, blank_match, with_cash, with_position}
use Rattle.text.specs.Text.{bytes}
use Rattle.text.specs.Print.{digits, last_digits, spaced, signed, answer_line}
use Rattle.text.specs.Ledger.{each, account_row, receipt_row, match_row, ledger}
use Rattle.text.specs.Page.{right, padded, yuan, account_columns, receipt_columns, account_entry, receipt_entry, match_entry, page, lent, page_answer}

paired : ℕ → Stage → Match
paired x s = record { held = x; loaded = 0; counted = 0; price = 600_000; units = 1; due = 1; heat = None; buyer = 1; seller = 0; stage = s; vessels = 0 }

worked : Book
worked =
    record {
      board = false;
      tonnes = 5;
      rate = 20;
      heats = heat_table;
      price = 610_000;
      day = 1;
      «open» = false;
      fund = 0;
      deposited = 7_000_000;
      accounts = with_cash blank_account (pos 2_400_000) ∷ with_cash blank_account (pos 4_000_000) ∷ replicate 30 blank_account;
      account_count = 2;
      receipts = record { owner = 1; bonded = true; state = ReceiptState.Free } ∷ record { owner = 0; bonded = false; state = ReceiptState.Frozen 1 } ∷ replicate 254 blank_receipt;
      receipt_count = 2;
      matches = paired 600_000 Stage.Held ∷ paired 0 Stage.Paired ∷ replicate 254 blank_match;
      match_count = 2;
    }

ledger_printed : ledger worked ≡ bytes "accounts 2\n0 2400000 0 0\n1 4000000 0 0\nreceipts 2\n0 1 1 0\n1 0 0 1\nmatches 2\n0 1 0 1 600000 2 600000\n1 1 0 1 600000 0 0\nfund 0\n"
unfolding digits last_digits spaced each account_row receipt_row match_row ledger worked paired
ledger_printed = refl

answers_printed : map answer_line (Answer.Accepted 2 ∷ Answer.Closed 1 1_023 0 ∷ Answer.Refused 26 ∷ []) ≡ bytes "ok 2\n" ∷ bytes "ok 1 1023 0\n" ∷ bytes "no 26\n" ∷ []
unfolding digits last_digits spaced
answers_printed = refl

minus_printed : signed (negsuc 1_199) ≡ bytes "-1200"
unfolding digits last_digits
minus_printed = refl

-- ---- the page of document 02's Job 1

page_printed : page worked ≡ bytes "accounts 2                              \n  0              24000.00   none       0\n  1              40000.00   none       0\nreceipts 2                              \n   0   1      bonded                free\n   1   0    ordinary              frozen\nmatches 2                               \n  0  1  0    1  600000 2          600000\n  1  1  0    1  600000 0               0\nfund 0                                  \n"
unfolding digits last_digits right padded yuan each account_entry receipt_entry match_entry page worked paired
page_printed = refl

-- five fen below zero, and the most that `Sound` lets an account come to below it, which fits the field
cash_printed : map (λ z. account_columns 31 (with_cash (with_position blank_account Side.Short 1_000 no_lots) z)) (negsuc 4 ∷ negsuc 1_290_699_999_999_999_999 ∷ []) ≡ bytes " 31                 -0.05  short    1000" ∷ bytes " 31 -12907000000000000.00  short    1000" ∷ []
unfolding digits last_digits right yuan
cash_printed = refl

struck_printed : receipt_columns 255 (record { owner = 31; bonded = false; state = ReceiptState.Struck }) ≡ bytes " 255  31    ordinary              struck"
unfolding digits last_digits right
struck_printed = refl

-- a buffer one byte short is refused and left; one of just the page's length is taken; bytes past the page stay
page_limits : map (page_answer worked) (replicate 409 7 ∷ replicate 410 7 ∷ []) ≡ Answer.Refused 27 ∷ Answer.Accepted 410 ∷ []
unfolding digits last_digits right padded yuan each account_entry receipt_entry match_entry page worked paired page_answer
page_limits = refl

page_stays : (lent (page worked) (replicate 409 7) ≡ replicate 409 7) × (lent (page worked) (replicate 412 7) ≡ page worked ++ (7 ∷ 7 ∷ []))
unfolding digits last_digits right padded yuan each account_entry receipt_entry match_entry page worked paired lent
page_stays = (refl, refl)
