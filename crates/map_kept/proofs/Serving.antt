-- What is kept and told, at the rows of the map.
use Rattle.api_desk.specs.HubDesk.{map_row, map_rows_stay}
use Rattle.desk_serve.proofs.KeptJoined.{KeptChain, KeptStay}
use Rattle.kept_desk.proofs.Told.{links_told, told_stay}

-- what one link and then another told by the same session is told together
pub kept_chain : KeptChain map_row
kept_chain = links_told map_row map_rows_stay

-- what was told on a front stands on each longer one, with more receipts
pub kept_longer : KeptStay map_row
kept_longer = told_stay map_row map_rows_stay
