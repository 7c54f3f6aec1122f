-- Inboxes and passes in contracts.
use Rattle.std.specs.Prelude.{ℕ}
use Rattle.atomic_table.specs.Seated.{TableId}
use Rattle.inbox.specs.declared.account.Account.{Account}

-- an inbox: its identity, and its number of places
pub record Opened : Type 0 where
  pub inbox : TableId
  pub slots : ℕ

-- a pass: the identity of its inbox, and its account
pub record KnownPass (T : Type 0) : Type 0 where
  pub inbox : TableId
  pub account : Account T

-- a way into or out of an inbox: the inbox, and the account of the pass
pub record WayThrough (T : Type 0) : Type 0 where
  pub of : Opened
  pub account : Account T
