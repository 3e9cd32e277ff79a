-- What desk_serve shows of any machine's desks, at those of the map.
use Rattle.session_desk.proofs.Chained.{links_served, served_longer}
use Rattle.api_desk.specs.HubDesk.{map_row, map_rows_stay}
use Rattle.desk_serve.proofs.Joined.{LinksChain, ServedStay}

-- what one link and then another had answered by the same session is answered together
pub links_chain : LinksChain map_row
links_chain = links_served map_row map_rows_stay

-- what was served on a front stands on each longer one
pub served_stay : ServedStay map_row
served_stay = served_longer map_row map_rows_stay
