pub mod HubCode
pub mod Hubs
