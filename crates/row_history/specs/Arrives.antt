-- A history in which all premises of the headline hold, and in which the packet arrives.
use Rattle.std.specs.Prelude.{◌≡◌, ◌≢◌, true, List, All, map, slice_get, Some, Ok}
use Rattle.forwarding.specs.declared.location.PacketLocation.TheVariants.{Delivered}
use Rattle.network_core.specs.declared.reply.Reply.TheVariants.{Sent}
use Rattle.network_core.specs.Event.{Send, ByAnswer}
use Rattle.network_core.specs.Value.{Shipment, PacketValue, new_net}
use Rattle.network_core.specs.Step.{shipment_by}
use Rattle.network_core.specs.History.{EventRecord, net_at, net_after, Occurs}
use Rattle.network_core.specs.Delivery.{is_done}
use Rattle.network_core.specs.Headline.{Undisturbed}
use Rattle.network_core.specs.Ran.{IsRun}
use Rattle.row_history.specs.Row.{row, row_events, hi}

-- these events are a run in the row, and none is refused; event number 5 sends packet 0, which is
-- undisturbed; after eight events it is not delivered, and after all nine it is
pub record Arrives : Type 0 where
  pub history : List EventRecord
  pub of : map (λ one. one.event) history ≡ row_events
  pub run : IsRun row history
  pub done : All (λ one. is_done one.reply ≡ true) history
  pub sends : Occurs history 5 (Send (ByAnswer 0 0) hi) (Sent 0)
  pub sent : Shipment
  pub by : shipment_by (net_at (new_net row) history 5) (ByAnswer 0 0) hi ≡ Ok sent
  pub quiet : Undisturbed (new_net row) history 5 0 sent.way.pieces
  pub not_yet : (one : PacketValue)
      → slice_get (net_at (new_net row) history 8).packets 0 ≡ Some one
      → one.packet.place ≢ Delivered
  pub packet : PacketValue
  pub there : slice_get (net_after (new_net row) history).packets 0 ≡ Some packet
  pub delivered : packet.packet.place ≡ Delivered
