-- What is known of a script's faults, and what it says of the deliveries of a link.
use Rattle.std.specs.Prelude.{◌≡◌, ℕ, ◌+◌, ◌<◌, ◌≤◌, ◌^◌, Bool, true, false, not, if◌then◌else◌, ◌&&◌}
use Rattle.std.specs.BTreeSet.{contains}
use Rattle.gx_ids.specs.declared.ids.Node.{Node}
use Rattle.gx_script.specs.declared.Script.{Script}
use Rattle.gx_store.specs.Ordered.{IsLink}
use Rattle.gx_store.specs.Schedule.{deliveries}
use Rattle.gx_agenda.specs.declared.cursor.Cursor.{Cursor}
use Rattle.gx_agenda.specs.declared.faults.Faults.{Faults}
use Rattle.gx_agenda.specs.Links.{link_of, message_cmp}

abbrev pub is_lost : Faults → ℕ → ℕ → Bool
is_lost faults link number = contains message_cmp faults.lost (record { link = link; number = number })

abbrev pub is_repeated : Faults → ℕ → ℕ → Bool
is_repeated faults link number = contains message_cmp faults.repeated (record { link = link; number = number })

-- how often a message is to be delivered, if it is lost or not, and repeated or not
abbrev pub times_of : Bool → Bool → ℕ
times_of lost repeated = if lost then 0 else (if repeated then 2 else 1)

abbrev pub times : Faults → ℕ → ℕ → ℕ
times faults link number = times_of (is_lost faults link number) (is_repeated faults link number)

-- on each link each message is to be delivered as often as the script says
abbrev pub AreFaultsOf : Script → Faults → Type 0
AreFaultsOf script faults = (from to : Node) (number : ℕ) → IsLink script from to → times faults (link_of from to) number ≡ deliveries script from to number

-- the messages behind the first so many are lost up to the second number, and the next one isn't
pub record Skips (faults : Faults) (link done passed : ℕ) : Type 0 where
  pub above : done ≤ passed
  pub lost : (n : ℕ) → done < n → n ≤ passed → is_lost faults link n ≡ true
  pub next : passed + 1 < 2 ^ 64 → is_lost faults link (passed + 1) ≡ false

-- how a link's cursor moves at a delivery: a message that is to come once more stays, and else the next one is the first
-- that isn't lost
abbrev pub FollowsBy : Bool → Faults → ℕ → Cursor → Cursor → Type 0
FollowsBy true faults link cursor new = new ≡ record { done = cursor.done; again = true }
FollowsBy false faults link cursor new = (new.again ≡ false) × Skips faults link (cursor.done + 1) new.done

abbrev pub Follows : Faults → ℕ → Cursor → Cursor → Type 0
Follows faults link cursor new = FollowsBy (not cursor.again && is_repeated faults link (cursor.done + 1)) faults link cursor new
